-- No definition refuses a font for lack of memory (`list_avoids`, `font_avoids`, `set_avoids`).
use Rattle.std.proofs.Common.{◌≡◌, ◌+◌, ◌*◌, ◌^◌, ◌&&◌, ℕ, length, Bool, true, false, List, [], ◌∷◌, refl, ap}
use Rattle.std.specs.Prelude.{Option, Some, None, Result, Ok, Err, nat_le, nat_lt, ◌==◌}
use Rattle.mt_tfm.specs.Checks.{are_small, agree, header_fits, chars_fault, cycle_fault, entries_fault, fault_unless, fix_fault, head_fault, index_fault, chars_of, program_fault, program_of, recipe_fault, recipes_of, table_fault, tfm_fault, use_fault, wanted_fault, zero_fault, zeros_fault}
use Rattle.mt_tfm.specs.Font.{Metrics}
use Rattle.mt_tfm.specs.Tables.{counts_of}
use Rattle.mt_tfm.specs.Words.{words_of, word_at, design_of}
use Rattle.mt_tfm.specs.declared.chars.CharWord.{CharWord}
use Rattle.mt_tfm.specs.declared.counts.Counts.{Counts}
use Rattle.mt_tfm.specs.declared.error.TfmError.{TfmError}
use Rattle.mt_tfm.specs.declared.error.TfmError.TheVariants.{Truncated, BadCounts, BadHeader, BadIndex, ChainCycle, BadFix, BadZero, BadProgram, BadRecipe, BadSize, OutOfMemory as NoFontMemory}
use Rattle.mt_tfm.specs.declared.measures.Measure.{Measure}
use Rattle.mt_tfm.specs.declared.measures.Measure.TheVariants.{Width, Height, Depth, Italic, Kern, Param}
use Rattle.mt_tfm.specs.declared.words.Word.{Word}
use Rattle.mt_tfm.specs.declared.program.PairWord.{PairWord}
use Rattle.mt_tfm.specs.declared.recipe.Recipe.{Recipe}
use Rattle.mt_family.specs.declared.error.ListError.{ListError}
use Rattle.mt_family.specs.declared.error.ListError.TheVariants.{BadLine, Repeated, UnknownFont, TooMany, OutOfMemory as NoListMemory}
use Rattle.mt_family.specs.declared.error.SetError.{SetError}
use Rattle.mt_family.specs.declared.error.SetError.TheVariants.{NoMathFamily, FewParameters, SameFont, OutOfMemory as NoSetMemory}
use Rattle.mt_family.specs.declared.line.FamilyFields.{FamilyFields}
use Rattle.mt_family.specs.declared.line.ListLine.{ListLine}
use Rattle.mt_family.specs.declared.line.ListLine.TheVariants.{Nothing, Font, Family, Skew}
use Rattle.mt_family.specs.declared.line.Version.{Version}
use Rattle.mt_tfm.specs.declared.wanted.Wanted.{Wanted}
use Rattle.mt_tfm.specs.declared.wanted.Wanted.TheVariants.{At, Scaled}
use Rattle.mt_tfm.specs.Sizes.{scaled_size}
use Rattle.mt_family.specs.declared.list.FamilyLine.{FamilyLine}
use Rattle.mt_family.specs.declared.list.FontLine.{FontLine}
use Rattle.mt_family.specs.declared.size.Size.{Size}
use Rattle.mt_family.specs.declared.size.Size.TheVariants.{Text, Script, Scriptscript}
use Rattle.mt_family.specs.Limits.{max_fonts}
use Rattle.mt_family.specs.Lines.{line_of, version_of}
use Rattle.mt_family.specs.ListFacts.{ListValue}
use Rattle.mt_family.specs.Lists.{SoFar, font_list, has_family, has_font, is_known, lines_of, nothing, with_family, with_font, with_form, with_line, with_lines, with_list, with_version}
use Rattle.mt_family.specs.SetValue.{SetValue, font_of}
use Rattle.mt_family.specs.Sets.{families_fault, family_fault, font_fault, same_fault, set_fault, size_fault}
use Rattle.mt_status.specs.FontRefusals.{font_by, font_refusal, font_set_by, font_set_refusal, list_by, list_refusal}
use Rattle.mt_status.specs.declared.status.Status.TheVariants.{OutOfMemory}
use Rattle.mt_status.proofs.Avoiding.{Avoids, Lacks, avoids_err, avoids_if, avoids_then, lacks_if, lacks_map, lacks_or}

-- ---- the font list

font_line_avoids : (n : ℕ) (list : ListValue) (f : FontLine) → Avoids NoListMemory (with_font n list f)
font_line_avoids n list f =
    avoids_if NoListMemory (has_font list.lines f) _ _ (λ same. cc) (avoids_if NoListMemory (nat_le max_fonts (length list.lines)) _ _ (λ same. cc) (λ same. cc))

family_line_avoids : (n : ℕ) (list : ListValue) (f : FamilyFields) → Avoids NoListMemory (with_family n list f)
family_line_avoids n list f =
    avoids_if NoListMemory (has_family list.families f.fam) _ _ (λ same. cc)
    (avoids_if NoListMemory (is_known (length list.lines) f.text && is_known (length list.lines) f.script && is_known (length list.lines) f.scriptscript) _ _ (λ same. cc) (λ same. cc))

form_avoids : (n : ℕ) (so_far : SoFar) (form : Option ListLine) → Avoids NoListMemory (with_form n so_far form)
form_avoids n so_far None = λ same. cc
form_avoids n so_far (Some Nothing) = λ same. cc
form_avoids n so_far (Some (Font f)) = avoids_then NoListMemory (with_font n so_far.list f) (λ list. Ok (with_list so_far list)) (font_line_avoids n so_far.list f) (λ list is same. cc)
form_avoids n so_far (Some (Family f)) =
    avoids_then NoListMemory (with_family n so_far.list f) (λ list. Ok (with_list so_far list)) (family_line_avoids n so_far.list f) (λ list is same. cc)
form_avoids n so_far (Some (Skew skew)) = λ same. cc

version_avoids : (so_far : SoFar) (version : Option Version) → Avoids NoListMemory (with_version so_far version)
version_avoids so_far None = λ same. cc
version_avoids so_far (Some version) = λ same. cc

line_avoids : (n : ℕ) (so_far : SoFar) (line : List ℕ) → Avoids NoListMemory (with_line n so_far line)
line_avoids n so_far line =
    avoids_if NoListMemory (n == 1) _ _ (version_avoids so_far (version_of line)) (form_avoids n so_far (line_of so_far.version so_far.skew line))

lines_avoid : (n : ℕ) (so_far : SoFar) (lines : List (List ℕ)) → Avoids NoListMemory (with_lines n so_far lines)
lines_avoid n so_far [] = λ same. cc
lines_avoid n so_far (line ∷ lines) =
    avoids_then NoListMemory (with_line n so_far line) (λ next. with_lines (n + 1) next lines) (line_avoids n so_far line) (λ next same. lines_avoid (n + 1) next lines)

list_error_avoids : (e : ListError) → (e ≡ NoListMemory → ⊥) → list_refusal e ≡ OutOfMemory → ⊥
list_error_avoids (BadLine line) other same = cc
list_error_avoids (Repeated line) other same = cc
list_error_avoids (UnknownFont line) other same = cc
list_error_avoids (TooMany line) other same = cc
list_error_avoids NoListMemory other same = other refl

list_by_avoids : (r : Result ListValue ListError) → Avoids NoListMemory r → Avoids OutOfMemory (list_by r)
list_by_avoids (Ok list) avoids = λ same. cc
list_by_avoids (Err e) avoids = avoids_err OutOfMemory (list_refusal e) (list_error_avoids e (λ same. avoids (ap Err same)))

pub list_avoids : (bytes : List ℕ) → Avoids OutOfMemory (list_by (font_list bytes))
list_avoids bytes = list_by_avoids (font_list bytes) (lines_avoid 1 nothing (lines_of bytes))

-- ---- a font

unless_lacks : (b : Bool) (fault : TfmError) → (fault ≡ NoFontMemory → ⊥) → Lacks NoFontMemory (fault_unless b fault)
unless_lacks true fault other same = cc
unless_lacks false fault other same = other cc

head_lacks : (c : Counts) (bytes : List ℕ) (words : List Word) → Lacks NoFontMemory (head_fault c bytes words)
head_lacks c bytes words =
    lacks_or NoFontMemory _ _ (unless_lacks (nat_le 24 (length bytes)) Truncated (λ same. cc))
    (lacks_or NoFontMemory _ _ (unless_lacks (are_small c && agree c) BadCounts (λ same. cc))
    (lacks_or NoFontMemory _ _ (unless_lacks (nat_le (4 * c.lf) (length bytes)) Truncated (λ same. cc)) (unless_lacks (header_fits (word_at words 7)) BadHeader (λ same. cc))))

chars_lack : (c : Counts) (chars : List CharWord) → Lacks NoFontMemory (chars_fault c chars)
chars_lack c chars =
    lacks_or NoFontMemory (index_fault c chars) (cycle_fault c.bc chars) (lacks_map NoFontMemory (λ i. BadIndex (c.bc + i)) _ (λ i same. cc)) (lacks_map NoFontMemory (λ i. ChainCycle (c.bc + i)) _ (λ i same. cc))

fix_lacks : (c : Counts) (words : List Word) (m : Measure) → Lacks NoFontMemory (fix_fault c words m)
fix_lacks c words m = lacks_map NoFontMemory _ _ (λ i same. cc)

zero_lacks : (c : Counts) (words : List Word) (m : Measure) → Lacks NoFontMemory (zero_fault c words m)
zero_lacks c words m = unless_lacks _ _ (λ same. cc)

entries_lack : (c : Counts) (words : List Word) → Lacks NoFontMemory (entries_fault c words)
unfolding entries_fault
entries_lack c words =
    lacks_or NoFontMemory (fix_fault c words Width) _ (fix_lacks c words Width)
    (lacks_or NoFontMemory (fix_fault c words Height) _ (fix_lacks c words Height)
    (lacks_or NoFontMemory (fix_fault c words Depth) _ (fix_lacks c words Depth)
    (lacks_or NoFontMemory (fix_fault c words Italic) _ (fix_lacks c words Italic)
    (lacks_or NoFontMemory (fix_fault c words Kern) (fix_fault c words Param) (fix_lacks c words Kern) (fix_lacks c words Param)))))

zeros_lack : (c : Counts) (words : List Word) → Lacks NoFontMemory (zeros_fault c words)
unfolding zeros_fault
zeros_lack c words =
    lacks_or NoFontMemory (zero_fault c words Width) _ (zero_lacks c words Width)
    (lacks_or NoFontMemory (zero_fault c words Height) _ (zero_lacks c words Height)
    (lacks_or NoFontMemory (zero_fault c words Depth) (zero_fault c words Italic) (zero_lacks c words Depth) (zero_lacks c words Italic)))

use_lacks : (c : Counts) (chars : List CharWord) (program : List PairWord) (recipes : List Recipe) → Lacks NoFontMemory (use_fault c chars program recipes)
use_lacks c chars program recipes =
    lacks_or NoFontMemory (program_fault c.bc chars program c.nk) (recipe_fault c.bc chars recipes) (lacks_map NoFontMemory (λ k. BadProgram k) _ (λ k same. cc)) (lacks_map NoFontMemory (λ k. BadRecipe k) _ (λ k same. cc))

table_lacks : (c : Counts) (words : List Word) → Lacks NoFontMemory (table_fault c words)
table_lacks c words =
    lacks_or NoFontMemory (chars_fault c (chars_of c words)) _ (chars_lack c (chars_of c words))
    (lacks_or NoFontMemory (entries_fault c words) _ (entries_lack c words)
    (lacks_or NoFontMemory (zeros_fault c words) (use_fault c (chars_of c words) (program_of c words) (recipes_of c words)) (zeros_lack c words)
    (use_lacks c (chars_of c words) (program_of c words) (recipes_of c words))))

size_lacks : (wanted : Wanted) (design : ℕ) → Lacks NoFontMemory (wanted_fault wanted design)
size_lacks (At at) design = λ same. cc
size_lacks (Scaled factor) design = unless_lacks (nat_le 1 (scaled_size factor design) && nat_lt (scaled_size factor design) (2 ^ 27)) _ (λ same. cc)

tfm_lacks : (bytes : List ℕ) (wanted : Wanted) → Lacks NoFontMemory (tfm_fault bytes wanted)
unfolding tfm_fault
tfm_lacks bytes wanted =
    let words = words_of bytes in
    lacks_or NoFontMemory (head_fault (counts_of words) bytes words) _ (head_lacks (counts_of words) bytes words)
    (lacks_or NoFontMemory (wanted_fault wanted (design_of words)) (table_fault (counts_of words) words) (size_lacks wanted (design_of words)) (table_lacks (counts_of words) words))

font_error_avoids : (n : ℕ) (fault : TfmError) → (fault ≡ NoFontMemory → ⊥) → font_refusal n fault ≡ OutOfMemory → ⊥
font_error_avoids n Truncated other same = cc
font_error_avoids n BadCounts other same = cc
font_error_avoids n BadHeader other same = cc
font_error_avoids n (BadIndex code) other same = cc
font_error_avoids n (ChainCycle code) other same = cc
font_error_avoids n (BadFix table entry) other same = cc
font_error_avoids n (BadZero table) other same = cc
font_error_avoids n (BadProgram word) other same = cc
font_error_avoids n (BadRecipe recipe) other same = cc
font_error_avoids n (BadSize size) other same = cc
font_error_avoids n NoFontMemory other same = other refl

font_by_avoids : (n : ℕ) (fault : Option TfmError) (metrics : Metrics) → Lacks NoFontMemory fault → Avoids OutOfMemory (font_by n fault metrics)
font_by_avoids n None metrics lacks = λ same. cc
font_by_avoids n (Some fault) metrics lacks = avoids_err OutOfMemory (font_refusal n fault) (font_error_avoids n fault (λ same. lacks (ap Some same)))

pub font_avoids : (n : ℕ) (bytes : List ℕ) (wanted : Wanted) (metrics : Metrics) → Avoids OutOfMemory (font_by n (tfm_fault bytes wanted) metrics)
font_avoids n bytes wanted metrics = font_by_avoids n (tfm_fault bytes wanted) metrics (tfm_lacks bytes wanted)

-- ---- the set

family_font_lacks : (fam : ℕ) (size : Size) (least : ℕ) (font : Option Metrics) → Lacks NoSetMemory (font_fault fam size least font)
family_font_lacks fam size least None = λ same. cc
family_font_lacks fam size least (Some m) = lacks_if NoSetMemory (nat_le least (length m.params)) _ _ (λ same. cc) (λ same. cc)

family_lacks : (families : List FamilyLine) (fonts : List Metrics) (fam least : ℕ) → Lacks NoSetMemory (family_fault families fonts fam least)
family_lacks families fonts fam least =
    lacks_or NoSetMemory (size_fault families fonts fam Text least) _ (family_font_lacks fam Text least (font_of families fonts fam Text))
    (lacks_or NoSetMemory (size_fault families fonts fam Script least) (size_fault families fonts fam Scriptscript least) (family_font_lacks fam Script least (font_of families fonts fam Script))
    (family_font_lacks fam Scriptscript least (font_of families fonts fam Scriptscript)))

set_lacks : (list : ListValue) (fonts : List Metrics) → Lacks NoSetMemory (set_fault list fonts)
set_lacks list fonts =
    lacks_or NoSetMemory (same_fault list.lines fonts) (families_fault list.families fonts) (lacks_map NoSetMemory (λ n. SameFont n) _ (λ n same. cc))
    (lacks_or NoSetMemory (family_fault list.families fonts 2 22) (family_fault list.families fonts 3 13) (family_lacks list.families fonts 2 22) (family_lacks list.families fonts 3 13))

set_error_avoids : (e : SetError) → (e ≡ NoSetMemory → ⊥) → font_set_refusal e ≡ OutOfMemory → ⊥
set_error_avoids (NoMathFamily fam size) other same = cc
set_error_avoids (FewParameters fam size) other same = cc
set_error_avoids (SameFont font) other same = cc
set_error_avoids NoSetMemory other same = other refl

set_by_avoids : (fault : Option SetError) (set : SetValue) → Lacks NoSetMemory fault → Avoids OutOfMemory (font_set_by fault set)
set_by_avoids None set lacks = λ same. cc
set_by_avoids (Some e) set lacks = avoids_err OutOfMemory (font_set_refusal e) (set_error_avoids e (λ same. lacks (ap Some same)))

pub set_avoids : (list : ListValue) (fonts : List Metrics) (set : SetValue) → Avoids OutOfMemory (font_set_by (set_fault list fonts) set)
set_avoids list fonts set = set_by_avoids (set_fault list fonts) set (set_lacks list fonts)
