-- Runs that are put before the rest.
use Rattle.std.proofs.Common.{◌≡◌, ℕ, ◌+◌, ◌<◌, ◌^◌, List, [], ◌∷◌, ◌++◌, length, refl, sym, ap, subst, ◌∙◌, arith, append_assoc, length-append}
use Rattle.std.proofs.lemmas.List.{append-nil}
use Rattle.mt_token.specs.declared.token.Token.{Token}
use Rattle.mt_macro.specs.declared.run.Run.{Run}
use Rattle.mt_macro.specs.declared.run.Place.{Place}
use Rattle.mt_macro.specs.declared.run.Place.TheVariants.{Given, Body, Argument, Remainder}
use Rattle.mt_macro.specs.declared.stack.Rest.{Rest}
use Rattle.mt_macro.specs.inner.Ends.{joined}
use Rattle.mt_macro.specs.inner.Lengths.{run_len, IsBasic}
use Rattle.mt_macro.specs.inner.Runs.{Sources, run_tokens, all_tokens, meanings, left, left_of, IsRun, IsRunAt, AreRuns, AreBasicRuns, AreLeft, GivesRun}
use Rattle.mt_macro.proofs.Ending.{joined_more}
use Rattle.mt_macro.proofs.Runs.{left_push, runs_push, runs_pop, run_length}
use Rattle.mt_macro.proofs.Stacks.{no_items, basic_tokens}
use Rattle.mt_macro.proofs.Gathers.{tokens_push}

-- runs of which the last ones are put before the rest
pub record Putting (src : Sources) (parts : List Run) (all before filled rest : Rest) : Type 0 where
  pub below : AreLeft src parts rest
  pub runs : AreRuns src (meanings src parts) filled.runs.items
  pub is : joined (all_tokens src (meanings src parts) filled.runs.items) ++ left_of src parts rest
      ≡ joined (all_tokens src (meanings src parts) all.runs.items) ++ left_of src parts before

pub putting_start : (src : Sources) (parts : List Run) (all before : Rest) → AreLeft src parts before → AreRuns src (meanings src parts) all.runs.items
    → Putting src parts all before all before
putting_start src parts all before l h = record { below = l; runs = h; is = refl }

-- the tokens of the runs, with the last one
last_tokens : (src : Sources) (ms : List (List Token)) (xs ys : List Run) (r : Run) → ys ≡ xs ++ r ∷ [] → joined (all_tokens src ms ys) ≡ joined (all_tokens src ms xs) ++ run_tokens src ms r
last_tokens src ms xs ys r e =
    ap (λ (x : List Run). joined (all_tokens src ms x)) e ∙ (ap joined (tokens_push src ms xs r) ∙ joined_more (all_tokens src ms xs) (run_tokens src ms r))

pub putting_room : (src : Sources) (parts : List Run) (all before filled filled' rest : Rest) (r : Run) → Putting src parts all before filled rest → filled.runs.items ≡ filled'.runs.items ++ r ∷ []
    → length (left_of src parts before) + length (joined (all_tokens src (meanings src parts) all.runs.items)) < 2 ^ 63 → rest.count + run_len r < 2 ^ 63
putting_room src parts all before filled filled' rest r g e h =
    let ms = meanings src parts in
    let d = runs_pop src ms filled'.runs.items r (subst (AreRuns src ms) e g.runs) in
    omega (
      arith,
      h,
      ap length g.is,
      ap length (last_tokens src ms filled'.runs.items filled.runs.items r e),
      length-append (joined (all_tokens src ms filled.runs.items)) (left_of src parts rest),
      length-append (joined (all_tokens src ms all.runs.items)) (left_of src parts before),
      length-append (joined (all_tokens src ms filled'.runs.items)) (run_tokens src ms r),
      run_length src ms r d.1,
      g.below.counted,
    )

pub putting_more : (src : Sources) (parts : List Run) (all before filled filled' rest rest' : Rest) (r : Run) → Putting src parts all before filled rest → filled.runs.items ≡ filled'.runs.items ++ r ∷ []
    → rest'.runs.items ≡ rest.runs.items ++ r ∷ [] → rest'.count ≡ rest.count + run_len r → Putting src parts all before filled' rest'
putting_more src parts all before filled filled' rest rest' r g e a c =
    let ms = meanings src parts in
    let d = runs_pop src ms filled'.runs.items r (subst (AreRuns src ms) e g.runs) in
    let is : left_of src parts rest' ≡ run_tokens src ms r ++ left_of src parts rest = ap (left src ms) a ∙ left_push src ms rest.runs.items r in
    record {
      below = record {
        parts_are = g.below.parts_are;
        runs = subst (AreRuns src ms) (sym a) (runs_push src ms rest.runs.items r g.below.runs d.1);
        counted = omega (arith, c, g.below.counted, ap length is, length-append (run_tokens src ms r) (left_of src parts rest), run_length src ms r d.1);
      };
      runs = d.0;
      is = ap (λ (x : List Token). joined (all_tokens src ms filled'.runs.items) ++ x) is
          ∙ (sym (append_assoc (joined (all_tokens src ms filled'.runs.items)) (run_tokens src ms r) (left_of src parts rest))
          ∙ (ap (λ (x : List Token). x ++ left_of src parts rest) (sym (last_tokens src ms filled'.runs.items filled.runs.items r e)) ∙ g.is));
    }

pub putting_end : (src : Sources) (parts : List Run) (all before filled rest : Rest) → Putting src parts all before filled rest → length filled.runs.items ≡ 0
    → left_of src parts rest ≡ joined (all_tokens src (meanings src parts) all.runs.items) ++ left_of src parts before
putting_end src parts all before filled rest g e =
    ap (λ (x : List Run). joined (all_tokens src (meanings src parts) x) ++ left_of src parts rest) (sym (no_items filled.runs.items e)) ∙ g.is

-- runs of items of the list given and of bodies, with which the tokens that are left begin
pub record Flattening (src : Sources) (parts : List Run) (before rest : Rest) (taken : List Run) : Type 0 where
  pub below : AreLeft src parts rest
  pub basic : AreBasicRuns src taken
  pub is : joined (all_tokens src [] taken) ++ left_of src parts rest ≡ left_of src parts before

pub flattening_start : (src : Sources) (parts : List Run) (before : Rest) (taken : List Run) → AreLeft src parts before → taken ≡ [] → Flattening src parts before before taken
flattening_start src parts before taken l e =
    let none : Flattening src parts before before [] = record { below = l; basic = tt; is = refl } in
    subst (λ (x : List Run). Flattening src parts before before x) (sym e) none

basic_push : (src : Sources) (rs : List Run) (r : Run) → AreBasicRuns src rs → IsRun src [] r → IsBasic r.place → AreBasicRuns src (rs ++ r ∷ [])
basic_push src [] r h k b = (k, b, tt)
basic_push src (x ∷ rs) r h k b = (h.0, h.1, basic_push src rs r h.2 k b)

basic_alone_at : (src : Sources) (ms : List (List Token)) (p : Place) (s e : ℕ) → IsBasic p → IsRunAt src ms p s e → IsRunAt src [] p s e
basic_alone_at src ms Given s e b h = h
basic_alone_at src ms (Body n) s e b h = h
basic_alone_at src ms (Argument c) s e b h = absurd b
basic_alone_at src ms (Remainder c) s e b h = absurd b

pub flattening_more : (src : Sources) (parts : List Run) (before rest rest' : Rest) (taken taken' : List Run) (r : Run) → Flattening src parts before rest taken → GivesRun src parts rest rest' r → IsBasic r.place
    → taken' ≡ taken ++ r ∷ [] → Flattening src parts before rest' taken'
flattening_more src parts before rest rest' taken taken' r g v b e =
    let same : run_tokens src [] r ≡ run_tokens src (meanings src parts) r = basic_tokens src [] r b ∙ sym (basic_tokens src (meanings src parts) r b) in
    record {
      below = v.below;
      basic = subst (AreBasicRuns src) (sym e) (basic_push src taken r g.basic (basic_alone_at src (meanings src parts) r.place r.start r.end b v.known) b);
      is = ap (λ (x : List Token). x ++ left_of src parts rest') (last_tokens src [] taken taken' r e)
          ∙ (append_assoc (joined (all_tokens src [] taken)) (run_tokens src [] r) (left_of src parts rest')
          ∙ (ap (λ (x : List Token). joined (all_tokens src [] taken) ++ (x ++ left_of src parts rest')) same
          ∙ (ap (λ (x : List Token). joined (all_tokens src [] taken) ++ x) (sym v.is) ∙ g.is)));
    }

pub flattening_end : (src : Sources) (parts : List Run) (before rest : Rest) (taken : List Run) → Flattening src parts before rest taken → left_of src parts rest ≡ []
    → joined (all_tokens src [] taken) ≡ left_of src parts before
flattening_end src parts before rest taken g e =
    sym (append-nil (joined (all_tokens src [] taken))) ∙ (ap (λ (x : List Token). joined (all_tokens src [] taken) ++ x) (sym e) ∙ g.is)

basic_runs : (src : Sources) (rs : List Run) → AreBasicRuns src rs → AreRuns src [] rs
basic_runs src [] h = tt
basic_runs src (r ∷ rs) h = (h.0, basic_runs src rs h.2)

pub none_but : (src : Sources) (parts taken : List Run) → parts ≡ [] → AreBasicRuns src taken → AreRuns src (meanings src parts) taken
none_but src parts taken p b = subst (λ (x : List Run). AreRuns src (meanings src x) taken) (sym p) (basic_runs src taken b)
