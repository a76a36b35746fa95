-- What an action gives, put to the list.
use Rattle.std.proofs.Common.{◌≡◌, ℕ, true, false, List, [], ◌∷◌, ◌++◌, length, Option, Some, None, refl, sym, ap, ◌∙◌, subst, arith, append-nil, append_assoc, length-append, true≢false}
use Rattle.mt_rules.specs.declared.class.Class.TheVariants.{Ord}
use Rattle.mt_rules.specs.declared.kind.Kind.{Kind}
use Rattle.mt_rules.specs.declared.kind.Kind.TheVariants.{Plain, Radical}
use Rattle.mt_rules.specs.declared.kind.Limits.{Limits}
use Rattle.mt_rules.specs.declared.kind.Limits.TheVariants.{Default}
use Rattle.mt_rules.specs.declared.symbol.Delim.{Delim}
use Rattle.mt_rules.specs.Sequence.{Sequence, Part, End, AtomElement, EmptyPart, RootPart}
use Rattle.mt_scan.specs.declared.role.Side.{Side}
use Rattle.mt_scan.specs.declared.role.Side.TheVariants.{Up, Down}
use Rattle.mt_scan.specs.Parts.{Read, Got, Fault, NoTurn}
use Rattle.mt_arena.specs.declared.thing.Cell.{Cell}
use Rattle.mt_arena.specs.declared.thing.Cell.TheVariants.{Root as OfRoot}
use Rattle.mt_arena.specs.declared.thing.Noad.{Noad}
use Rattle.mt_arena.specs.declared.thing.Span.{Span}
use Rattle.mt_arena.specs.declared.thing.Thing.{Thing}
use Rattle.mt_arena.specs.declared.thing.Thing.TheVariants.{Atom}
use Rattle.mt_arena.specs.Arena.{ArenaValue, Extends, Held, ItemHeld, RootHeld, as_sequence, cell_part, held_in, root_in, sequence_in, value_in}
use Rattle.mt_arena.specs.Keeping.{ElementLists, KeptList, PartLists}
use Rattle.mt_arena.proofs.Putting.{extends_same, root_last}
use Rattle.mt_formula.specs.declared.reading.given.Given.TheVariants as give
use Rattle.mt_formula.specs.declared.reading.given.RunEnd.{RunEnd}
use Rattle.mt_formula.specs.Atoms.{append, group_atom, is_field, is_ord_kind, nucleus_atom, nucleus_of, plain_atom, with_limits, with_script}
use Rattle.mt_formula.specs.Lists.{ItemRun, items_before}
use Rattle.mt_formula.specs.reading.Givens.{KeptThing, item_in}
use Rattle.mt_formula.specs.reading.Inside.{are_inside}
use Rattle.mt_formula.specs.reading.Noads.{bare_noad, KeptField, KeptLast, OpenNoad, last_held, last_in, limited, noad_in, noad_with, scripted_noad}
use Rattle.mt_formula.specs.reading.Reads.{Adds, Puts}
use Rattle.mt_formula.specs.reading.WholeLists.{KeptSpan}
use Rattle.mt_formula.proofs.Arenas.{inside_more, inside_sequence, last_items, sequence_more}
use Rattle.mt_formula.proofs.Inside.{both_true, math_list, with_sub, with_sup}

pub no_items : (r : Read ItemRun) → items_before End r ≡ r
no_items (Got part rest) = refl
no_items (Fault cause left) = refl
no_items NoTurn = refl

-- nothing is put
pub adds_none : (a : ArenaValue) → Adds a a []
adds_none a = record { front = extends_same a.closed; top = sym (append-nil a.top); below = refl; inside = refl }

-- an atom behind the one at hand
pub atom_put : (old new : ArenaValue) (run : RunEnd) (a : Noad) → KeptLast old.closed run.last → OpenNoad old.closed a
    → Adds old new (last_held old.closed run.last) → new.closed ≡ old.closed → Puts old new run (give.Atom a) (record { last = Some a; family = run.family })
atom_put old new run a k o adds e = record {
  more = last_held old.closed run.last;
  adds = adds;
  is = λ tables units again level rest.
      ap (λ items. items_before items (again level run.family (Some (noad_in old.closed a)) rest)) (sym (last_items old.closed run.last))
      ∙ ap (λ es. items_before (as_sequence (last_held old.closed run.last)) (again level run.family (Some (noad_in es a)) rest)) (sym e);
}

-- another item behind the atom at hand
pub item_put : (old mid new : ArenaValue) (run : RunEnd) (t : Thing) → KeptLast old.closed run.last → KeptThing old.closed t
    → Adds old mid (last_held old.closed run.last) → mid.closed ≡ old.closed
    → new.top ≡ mid.top ++ value_in mid.closed t ∷ [] → new.below ≡ mid.below → new.closed ≡ mid.closed
    → Puts old new run (give.Item t) (record { last = None; family = run.family })
item_put old mid new run t k h adds e top below closed = record {
  more = last_held old.closed run.last ++ value_in old.closed t ∷ [];
  adds = record {
    front = subst (Extends old.closed) (sym (closed ∙ e)) (extends_same old.closed);
    top = top ∙ ap (λ es. mid.top ++ value_in es t ∷ []) e ∙ ap (λ hs. hs ++ value_in old.closed t ∷ []) adds.top ∙ append_assoc old.top (last_held old.closed run.last) (value_in old.closed t ∷ []);
    below = below ∙ adds.below;
    inside = inside_more (last_held old.closed run.last) (value_in old.closed t ∷ []) adds.inside h.2;
  };
  is = λ tables units again level rest.
      ap (λ items. items_before (append items (item_in old.closed t)) (again level run.family None rest)) (sym (last_items old.closed run.last))
      ∙ ap (λ items. items_before items (again level run.family None rest)) (sym (sequence_more (last_held old.closed run.last) (value_in old.closed t ∷ [])));
}

scripted_in : (es : List Held) (side : Side) (part : Cell) (last : Option Noad) → with_script side (cell_part es part) (last_in es last) ≡ noad_in es (noad_with side part last)
scripted_in es Up part None = refl
scripted_in es Down part None = refl
scripted_in es Up part (Some a) = refl
scripted_in es Down part (Some a) = refl

-- a script of the atom at hand
pub script_put : (old : ArenaValue) (run : RunEnd) (side : Side) (part : Cell) → Puts old old run (give.Script side part) (record { last = Some (noad_with side part run.last); family = run.family })
script_put old run side part = record {
  more = [];
  adds = adds_none old;
  is = λ tables units again level rest.
      ap (λ a. again level run.family (Some a) rest) (scripted_in old.closed side part run.last) ∙ sym (no_items (again level run.family (Some (noad_in old.closed (noad_with side part run.last))) rest));
}

-- the one that gets it keeps what atoms keep
scripted_kept : (es : List Held) (last : Option Noad) → KeptLast es last → OpenNoad es (scripted_noad last)
scripted_kept es None k = record { kept = record { within = omega arith; lists = (tt, tt, tt); fits = refl }; takes = refl }
scripted_kept es (Some a) k = k

pub script_kept : (es : List Held) (side : Side) (part : Cell) (last : Option Noad) → KeptLast es last → KeptField es part → OpenNoad es (noad_with side part last)
script_kept es Up part last k f =
    let a = scripted_noad last in
    let o = scripted_kept es last k in
    record {
      kept = record {
        within = omega (arith, o.kept.within, f.within);
        lists = (o.kept.lists.0, f.lists, o.kept.lists.2);
        fits = with_sup a.kind (cell_part es a.nucleus) (cell_part es a.sup) (cell_part es a.sub) (cell_part es part) o.takes o.kept.fits f.field;
      };
      takes = o.takes;
    }
script_kept es Down part last k f =
    let a = scripted_noad last in
    let o = scripted_kept es last k in
    record {
      kept = record {
        within = omega (arith, o.kept.within, f.within);
        lists = (o.kept.lists.0, o.kept.lists.1, f.lists);
        fits = with_sub a.kind (cell_part es a.nucleus) (cell_part es a.sup) (cell_part es a.sub) (cell_part es part) o.takes o.kept.fits f.field;
      };
      takes = o.takes;
    }

limited_in : (es : List Held) (limits : Limits) (last : Option Noad) → with_limits limits (last_in es last) ≡ last_in es (limited limits last)
limited_in es limits None = refl
limited_in es limits (Some a) = refl

-- limits of the atom at hand
pub limits_put : (old : ArenaValue) (run : RunEnd) (limits : Limits) → Puts old old run (give.Limits limits) (record { last = limited limits run.last; family = run.family })
limits_put old run limits = record {
  more = [];
  adds = adds_none old;
  is = λ tables units again level rest.
      ap (λ a. again level run.family a rest) (limited_in old.closed limits run.last) ∙ sym (no_items (again level run.family (last_in old.closed (limited limits run.last)) rest));
}

pub limits_kept : (es : List Held) (limits : Limits) (last : Option Noad) → KeptLast es last → KeptLast es (limited limits last)
limits_kept es limits None k = tt
limits_kept es limits (Some a) k = record { kept = record { within = k.kept.within; lists = k.kept.lists; fits = k.kept.fits }; takes = k.takes }

-- a group as the nucleus of an atom of another kind than an Ord
pub other_nucleus : (kind : Kind) (list : Sequence) → is_ord_kind kind ≡ false → nucleus_atom kind list ≡ plain_atom kind (nucleus_of list)
other_nucleus (Plain Ord) list e = absurd (true≢false e)
other_nucleus _ list e = refl

pub ordinary_nucleus : (kind : Kind) (list : Sequence) → is_ord_kind kind ≡ true → nucleus_atom kind list ≡ group_atom list
ordinary_nucleus (Plain Ord) list e = refl
ordinary_nucleus _ list e = absurd (true≢false (sym e))

-- a root, whose degree and body are there
pub root_lists : (es : List Held) (degree : Span) (body : Cell) → KeptSpan es degree → KeptField es body → KeptList (sequence_in es degree) × PartLists (cell_part es body)
root_lists es degree body k f = ((math_list (sequence_in es degree) (inside_sequence (held_in es degree) k.inside), k.lists), f.lists)

pub root_kept : (es gs : List Held) (sign : Delim) (n : ℕ) (degree : Sequence) (body : Part) → gs ≡ es ++ RootHeld degree body ∷ [] → n ≡ length es → KeptList degree × PartLists body → is_field body ≡ true
    → KeptThing gs (Atom (bare_noad (Radical sign) (OfRoot n)))
root_kept es gs sign n degree body e m k f =
    let r : root_in gs n ≡ RootPart degree body = ap (λ hs. root_in hs n) e ∙ root_last es (RootHeld degree body) n m in (
      omega (arith, ap length e, length-append es (RootHeld degree body ∷ []), m),
      subst (λ p. ElementLists (AtomElement (Radical sign) Default p EmptyPart EmptyPart)) (sym r) (k, tt, tt),
      subst (λ p. are_inside (ItemHeld (AtomElement (Radical sign) Default p EmptyPart EmptyPart) ∷ []) ≡ true) (sym r) (both_true _ true (both_true _ true f refl) refl),
    )
