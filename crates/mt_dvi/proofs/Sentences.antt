-- Which sentences of the definition of a lean file hold of a file (`sentences`): it is lean where all do (`lean_of`), and
-- only there (`refused`).
use Rattle.std.proofs.Common.{◌≡◌, ℕ, zero, suc, ◌/◌, List, [], ◌∷◌, get_or, refl, sym, ◌∙◌, ap, arith}
use Rattle.std.specs.Prelude.{pos, replicate, Bool, true, false, None, ◌==◌, ◌&&◌, All}
use Rattle.std.specs.List.{list_all}
use Rattle.mt_family.specs.SetValue.{SetValue}
use Rattle.mt_tfm.specs.Font.{Metrics}
use Rattle.mt_tfm.specs.declared.wanted.Wanted.TheVariants.{At}
use Rattle.mt_dvi.specs.Codes.{W, X, Y, Z}
use Rattle.mt_dvi.specs.Lean.{Lean, LeanPage, are_in_turn, are_modest, are_needed, is_allowed, is_no_zero, is_short, sets_anew}
use Rattle.mt_dvi.specs.Trace.{Opcode, Trace, traced}

-- 94 characters from code 33 on, each half as wide as the size
abbrev metrics_of_size : ℕ → Metrics
metrics_of_size size = record {
  first = 33;
  chars = replicate 94 (record { width = 1; height = 0; depth = 0; italic = 0; tag = 0; remainder = 0 });
  widths = pos 0 ∷ pos (size / 2) ∷ [];
  heights = pos 0 ∷ [];
  depths = pos 0 ∷ [];
  italics = pos 0 ∷ [];
  program = [];
  kerns = [];
  recipes = [];
  params = [];
  skew = None;
  checksum = 0;
  design = 655360;
  at = pos size;
}

-- toyr at three sizes, and toym
abbrev pub fonts : SetValue
fonts = record {
  lines =
      record { name = 116 ∷ 111 ∷ 121 ∷ 114 ∷ []; wanted = At (pos 655360); skew = None }
      ∷ record { name = 116 ∷ 111 ∷ 121 ∷ 114 ∷ []; wanted = At (pos 458752); skew = None }
      ∷ record { name = 116 ∷ 111 ∷ 121 ∷ 114 ∷ []; wanted = At (pos 327680); skew = None }
      ∷ record { name = 116 ∷ 111 ∷ 121 ∷ 109 ∷ []; wanted = At (pos 655360); skew = None }
      ∷ [];
  families = [];
  fonts = metrics_of_size 655360 ∷ metrics_of_size 458752 ∷ metrics_of_size 327680 ∷ metrics_of_size 655360 ∷ [];
}

abbrev all_pages : (List Opcode → Bool) → Trace → Bool
all_pages is_so trace = list_all is_so trace.pages

-- which sentences hold: allowed, selections, anew, across, downward, modest, no_zero, short, numbers
abbrev pub sentences : Trace → List Bool
sentences trace =
    all_pages (list_all (λ (opcode : Opcode). is_allowed opcode.says)) trace
    ∷ all_pages are_needed trace
    ∷ all_pages (list_all (λ (opcode : Opcode). sets_anew opcode.before.now opcode.says)) trace
    ∷ all_pages (are_in_turn W X) trace
    ∷ all_pages (are_in_turn Y Z) trace
    ∷ all_pages (are_modest []) trace
    ∷ all_pages (list_all (λ (opcode : Opcode). is_no_zero opcode.before.now opcode.says)) trace
    ∷ all_pages (list_all (λ (opcode : Opcode). is_short opcode.code opcode.size opcode.says)) trace
    ∷ list_all (λ (size : ℕ). size == 1) trace.numbers
    ∷ []

abbrev pub all_hold : List Bool
all_hold = true ∷ true ∷ true ∷ true ∷ true ∷ true ∷ true ∷ true ∷ true ∷ []

each_page : (p : List Opcode → Bool) → ((page : List Opcode) → LeanPage page → p page ≡ true) → (pages : List (List Opcode)) → All LeanPage pages → list_all p pages ≡ true
each_page p holds [] all = refl
each_page p holds (page ∷ pages) all = rw (holds page (all 0 page (omega arith)), each_page p holds pages (λ k d lt. all (suc k) d (omega arith))) refl

-- a file is lean where all of them hold, and only there
hold_of_lean : (bytes : List ℕ) → Lean fonts bytes → sentences (traced fonts bytes) ≡ all_hold
hold_of_lean bytes lean =
    let pages = (traced fonts bytes).pages in
    rw (
      each_page _ (λ page is. is.allowed) pages lean.pages,
      each_page _ (λ page is. is.selections) pages lean.pages,
      each_page _ (λ page is. is.anew) pages lean.pages,
      each_page _ (λ page is. is.across) pages lean.pages,
      each_page _ (λ page is. is.downward) pages lean.pages,
      each_page _ (λ page is. is.modest) pages lean.pages,
      each_page _ (λ page is. is.no_zero) pages lean.pages,
      each_page _ (λ page is. is.short) pages lean.pages,
      lean.numbers,
    ) refl

and_left : (a b : Bool) → (a && b) ≡ true → a ≡ true
and_left true b e = refl
and_left false b e = e

and_right : (a b : Bool) → (a && b) ≡ true → b ≡ true
and_right true b e = e
and_right false b e = absurd (cc)

lean_pages : (pages : List (List Opcode)) → list_all (list_all (λ (opcode : Opcode). is_allowed opcode.says)) pages ≡ true → list_all are_needed pages ≡ true
    → list_all (list_all (λ (opcode : Opcode). sets_anew opcode.before.now opcode.says)) pages ≡ true → list_all (are_in_turn W X) pages ≡ true → list_all (are_in_turn Y Z) pages ≡ true → list_all (are_modest []) pages ≡ true
    → list_all (list_all (λ (opcode : Opcode). is_no_zero opcode.before.now opcode.says)) pages ≡ true → list_all (list_all (λ (opcode : Opcode). is_short opcode.code opcode.size opcode.says)) pages ≡ true → All LeanPage pages
lean_pages [] a b x y z u v w k d lt = absurd (omega arith)
lean_pages (page ∷ pages) a b x y z u v w zero d lt = record {
  allowed = and_left _ _ a;
  selections = and_left _ _ b;
  anew = and_left _ _ x;
  across = and_left _ _ y;
  downward = and_left _ _ z;
  modest = and_left _ _ u;
  no_zero = and_left _ _ v;
  short = and_left _ _ w;
}
lean_pages (page ∷ pages) a b x y z u v w (suc k) d lt =
    lean_pages pages (and_right (list_all (λ (opcode : Opcode). is_allowed opcode.says) page) _ a) (and_right (are_needed page) _ b) (and_right (list_all (λ (opcode : Opcode). sets_anew opcode.before.now opcode.says) page) _ x) (and_right (are_in_turn W X page) _ y)
    (and_right (are_in_turn Y Z page) _ z) (and_right (are_modest [] page) _ u) (and_right (list_all (λ (opcode : Opcode). is_no_zero opcode.before.now opcode.says) page) _ v) (and_right (list_all (λ (opcode : Opcode). is_short opcode.code opcode.size opcode.says) page) _ w) k d (omega arith)

pub lean_of : (bytes : List ℕ) → sentences (traced fonts bytes) ≡ all_hold → Lean fonts bytes
lean_of bytes e = record { pages = lean_pages (traced fonts bytes).pages (at 0) (at 1) (at 2) (at 3) (at 4) (at 5) (at 6) (at 7); numbers = at 8 } where
  at : (i : ℕ) → get_or (sentences (traced fonts bytes)) i false ≡ get_or all_hold i false
  at i = ap (λ (l : List Bool). get_or l i false) e

pub refused : (bytes : List ℕ) (held : List Bool) → sentences (traced fonts bytes) ≡ held → list_all (λ (b : Bool). b) held ≡ false → Lean fonts bytes → ⊥
refused bytes held is broken lean = let e : false ≡ true = sym broken ∙ ap (list_all (λ (b : Bool). b)) (sym is ∙ hold_of_lean bytes lean) in absurd (cc)
