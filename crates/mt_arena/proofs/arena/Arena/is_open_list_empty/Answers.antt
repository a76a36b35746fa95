use Rattle.std.proofs.Common.{◌≡◌, Bool, true, false, T, refl, subst, ap, sym, ◌∙◌, arith, length, reverse, leb→le, le→leb}
use Rattle.mt_arena.specs.inner.Backward.{items_in, first_start}
use Rattle.std.proofs.lemmas.List.{length-map}
use Rattle.mt_arena.proofs.Opening.{empty_top, only_empty}
use Rattle.mt_arena.proofs.arena.Arena.is_open_list_empty.Goals as goal

holds : (b : Bool) → b ≡ true → T b
holds b e = subst T (sym e) tt

is_true : (b : Bool) → T b → b ≡ true
is_true true h = refl
is_true false h = elim h [ ]

pub returns : goal.returns
returns c =
    let hs = items_in c.self.inside in
    let ss = reverse c.self.inside.starts.items in
    let at : c.last_start.result ≡ first_start ss = c.last_start.ensures ∙ ap (λ x. first_start (reverse x)) c.deref.ensures.value in
    let n : length hs ≡ length c.self.inside.pending.items = length-map c.self.inside.pending.items _ in
    rw (← c.self.view_is) (
      (λ e. empty_top hs ss (omega (arith, leb→le c.len.result c.last_start.result (holds _ e), c.len.ensures, at, n))),
      (λ e. is_true _ (le→leb c.len.result c.last_start.result (omega (arith, only_empty hs ss e, c.len.ensures, at, n)))),
    )
