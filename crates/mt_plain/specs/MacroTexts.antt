-- The macros of plain TeX, without parameters (The TeXbook, Appendix B).
use Rattle.std.specs.Prelude.{ℕ, List, [], ◌∷◌, ◌++◌, codes}

-- names, each with the text of its body
abbrev pub MacroTexts : Type 0
MacroTexts = List (List ℕ × List ℕ)

-- accents
unfoldable pub accent_macros : MacroTexts
accent_macros =
    (codes "acute", codes "\\mathaccent\"7013 ") ∷
    (codes "grave", codes "\\mathaccent\"7012 ") ∷
    (codes "ddot", codes "\\mathaccent\"707F ") ∷
    (codes "tilde", codes "\\mathaccent\"707E ") ∷
    (codes "bar", codes "\\mathaccent\"7016 ") ∷
    (codes "breve", codes "\\mathaccent\"7015 ") ∷
    (codes "check", codes "\\mathaccent\"7014 ") ∷
    (codes "hat", codes "\\mathaccent\"705E ") ∷
    (codes "vec", codes "\\mathaccent\"017E ") ∷
    (codes "dot", codes "\\mathaccent\"705F ") ∷
    (codes "widetilde", codes "\\mathaccent\"0365 ") ∷
    (codes "widehat", codes "\\mathaccent\"0362 ") ∷
    []

-- delimiters
unfoldable pub delimiter_macros : MacroTexts
delimiter_macros =
    (codes "|", codes "\\delimiter\"26B30D ") ∷
    (codes "Vert", codes "\\delimiter\"26B30D ") ∷
    (codes "vert", codes "\\delimiter\"26A30C ") ∷
    (codes "uparrow", codes "\\delimiter\"3222378 ") ∷
    (codes "downarrow", codes "\\delimiter\"3223379 ") ∷
    (codes "updownarrow", codes "\\delimiter\"326C33F ") ∷
    (codes "Uparrow", codes "\\delimiter\"322A37E ") ∷
    (codes "Downarrow", codes "\\delimiter\"322B37F ") ∷
    (codes "Updownarrow", codes "\\delimiter\"326D377 ") ∷
    (codes "backslash", codes "\\delimiter\"26E30F ") ∷
    (codes "rangle", codes "\\delimiter\"526930B ") ∷
    (codes "langle", codes "\\delimiter\"426830A ") ∷
    (codes "rbrace", codes "\\delimiter\"5267309 ") ∷
    (codes "}", codes "\\delimiter\"5267309 ") ∷
    (codes "lbrace", codes "\\delimiter\"4266308 ") ∷
    (codes "{", codes "\\delimiter\"4266308 ") ∷
    (codes "rceil", codes "\\delimiter\"5265307 ") ∷
    (codes "lceil", codes "\\delimiter\"4264306 ") ∷
    (codes "rfloor", codes "\\delimiter\"5263305 ") ∷
    (codes "lfloor", codes "\\delimiter\"4262304 ") ∷
    []

-- other macros
unfoldable pub other_macros : MacroTexts
other_macros =
    (codes "sqrt", codes "\\radical\"270370 ") ∷
    (codes "int", codes "\\intop\\nolimits") ∷
    (codes "oint", codes "\\ointop\\nolimits") ∷
    (codes "ne", codes "\\not=") ∷
    (codes "neq", codes "\\not=") ∷
    (codes "mapsto", codes "\\mapstochar\\rightarrow") ∷
    (codes "ldots", codes "\\mathinner{\\ldotp\\ldotp\\ldotp}") ∷
    (codes "cdots", codes "\\mathinner{\\cdotp\\cdotp\\cdotp}") ∷
    (codes "choose", codes "\\atopwithdelims()") ∷
    (codes "brack", codes "\\atopwithdelims[]") ∷
    (codes "brace", codes "\\atopwithdelims\\{\\}") ∷
    (codes "quad", codes "\\hskip1em\\relax") ∷
    (codes "qquad", codes "\\hskip2em\\relax") ∷
    (codes "mathstrut", codes "\\vphantom(") ∷
    []

-- families
unfoldable pub family_macros : MacroTexts
family_macros =
    (codes "rm", codes "\\fam 0 ") ∷
    (codes "mit", codes "\\fam 1 ") ∷
    (codes "cal", codes "\\fam 2 ") ∷
    (codes "it", codes "\\fam 4 ") ∷
    (codes "sl", codes "\\fam 5 ") ∷
    (codes "bf", codes "\\fam 6 ") ∷
    (codes "tt", codes "\\fam 7 ") ∷
    []

-- names of functions, such as \sin
unfoldable pub function_macros : MacroTexts
function_macros =
    (codes "log", codes "\\mathop{\\rm log}\\nolimits") ∷
    (codes "lg", codes "\\mathop{\\rm lg}\\nolimits") ∷
    (codes "ln", codes "\\mathop{\\rm ln}\\nolimits") ∷
    (codes "sin", codes "\\mathop{\\rm sin}\\nolimits") ∷
    (codes "arcsin", codes "\\mathop{\\rm arcsin}\\nolimits") ∷
    (codes "sinh", codes "\\mathop{\\rm sinh}\\nolimits") ∷
    (codes "cos", codes "\\mathop{\\rm cos}\\nolimits") ∷
    (codes "arccos", codes "\\mathop{\\rm arccos}\\nolimits") ∷
    (codes "cosh", codes "\\mathop{\\rm cosh}\\nolimits") ∷
    (codes "tan", codes "\\mathop{\\rm tan}\\nolimits") ∷
    (codes "arctan", codes "\\mathop{\\rm arctan}\\nolimits") ∷
    (codes "tanh", codes "\\mathop{\\rm tanh}\\nolimits") ∷
    (codes "cot", codes "\\mathop{\\rm cot}\\nolimits") ∷
    (codes "coth", codes "\\mathop{\\rm coth}\\nolimits") ∷
    (codes "sec", codes "\\mathop{\\rm sec}\\nolimits") ∷
    (codes "csc", codes "\\mathop{\\rm csc}\\nolimits") ∷
    (codes "arg", codes "\\mathop{\\rm arg}\\nolimits") ∷
    (codes "ker", codes "\\mathop{\\rm ker}\\nolimits") ∷
    (codes "dim", codes "\\mathop{\\rm dim}\\nolimits") ∷
    (codes "hom", codes "\\mathop{\\rm hom}\\nolimits") ∷
    (codes "exp", codes "\\mathop{\\rm exp}\\nolimits") ∷
    (codes "deg", codes "\\mathop{\\rm deg}\\nolimits") ∷
    []

-- names of functions that take limits, such as \lim
unfoldable pub limit_macros : MacroTexts
limit_macros =
    (codes "lim", codes "\\mathop{\\rm lim}") ∷
    (codes "max", codes "\\mathop{\\rm max}") ∷
    (codes "min", codes "\\mathop{\\rm min}") ∷
    (codes "sup", codes "\\mathop{\\rm sup}") ∷
    (codes "inf", codes "\\mathop{\\rm inf}") ∷
    (codes "det", codes "\\mathop{\\rm det}") ∷
    (codes "Pr", codes "\\mathop{\\rm Pr}") ∷
    (codes "gcd", codes "\\mathop{\\rm gcd}") ∷
    []

unfoldable pub macro_texts : MacroTexts
macro_texts = accent_macros ++ delimiter_macros ++ other_macros ++ family_macros ++ function_macros ++ limit_macros
