-- Parts that are gathered and written one after another.
use Rattle.std.proofs.Common.{◌≡◌, ℕ, ◌+◌, ◌<◌, ◌≤◌, List, [], ◌++◌, length, get_or, take, drop, sym, ◌∙◌, ap, subst, append_assoc, add-one, drop-cons, take-append-drop, arith}
use Rattle.std.specs.Prelude.{Option, Result, Ok, Err, OnOk, OnErr}
use Rattle.mt_status.specs.declared.log_part.LogPart.{LogPart}
use Rattle.std.proofs.lemmas.List.{append-nil, drop_all}
use Rattle.mt_outside.specs.Appends.{Appends, write_prefix}
use Rattle.mt_outside.proofs.Appended.{appends_none, appends_more}
use Rattle.mt_outside.specs.Counts.{WriteLeaves}
use Rattle.mt_status.specs.Log.{Gets}
use Rattle.mt_status.specs.inner.LogParts.{Gathers, WritesFront, parts_bytes, part_bytes}

-- there was room for the bytes: nothing is written
pub has_room : (told : Option (List ℕ)) (old_held held bytes : List ℕ) → held ≡ old_held ++ bytes → Gathers told told old_held held bytes
has_room told old_held held bytes e = record { front = []; split = sym e; told = appends_none told }

-- there was none: those that were gathered are written, and then the bytes
pub has_none : (before mid now : Option (List ℕ)) (old_held bytes : List ℕ) → Appends before mid old_held → Appends mid now bytes → Gathers before now old_held [] bytes
has_none before mid now old_held bytes first then =
    record { front = old_held ++ bytes; split = sym (append-nil (old_held ++ bytes)); told = appends_more before mid now old_held bytes first then }

-- the sink failed at those that were gathered
pub fails_first : (before now : Option (List ℕ)) (held bytes : List ℕ) (count : ℕ) → Appends before now (take count held) → WritesFront before now held bytes
fails_first before now held bytes count told = record {
  front = take count held;
  rest = drop count held ++ bytes;
  split = ap (λ (l : List ℕ). l ++ bytes) (sym (take-append-drop count held)) ∙ append_assoc (take count held) (drop count held) bytes;
  told = told;
}

-- the sink failed at the bytes
pub fails_then : (before mid now : Option (List ℕ)) (held bytes : List ℕ) (count : ℕ) → Appends before mid held → Appends mid now (take count bytes) → WritesFront before now held bytes
fails_then before mid now held bytes count first then = record {
  front = held ++ take count bytes;
  rest = drop count bytes;
  split = ap (λ (l : List ℕ). held ++ l) (sym (take-append-drop count bytes)) ∙ sym (append_assoc held (take count bytes) (drop count bytes));
  told = appends_more before mid now held (take count bytes) first then;
}

-- what a write of the bytes answers, after those that were gathered are written
pub written_ok : {T : Type 0} (before mid now : Option (List ℕ)) (old_held written held bytes : List ℕ) (r : Result T ℕ)
    → written ≡ old_held → held ≡ [] → Appends before mid written → Appends mid now (write_prefix r bytes)
    → OnOk r (Gathers before now old_held held bytes)
written_ok before mid now old_held written held bytes (Ok done) e empty first then =
    subst (λ (l : List ℕ). Gathers before now old_held l bytes) (sym empty)
    (has_none before mid now old_held bytes (subst (λ (l : List ℕ). Appends before mid l) e first) then)
written_ok before mid now old_held written held bytes (Err count) e empty first then = tt

pub written_err : {T : Type 0} (before mid now : Option (List ℕ)) (old_held written bytes : List ℕ) (r : Result T ℕ)
    → written ≡ old_held → Appends before mid written → Appends mid now (write_prefix r bytes)
    → OnErr r (WritesFront before now old_held bytes)
written_err before mid now old_held written bytes (Ok done) e first then = tt
written_err before mid now old_held written bytes (Err count) e first then =
    fails_then before mid now old_held bytes count (subst (λ (l : List ℕ). Appends before mid l) e first) then

pub fails_at_once : {T : Type 0} (before now : Option (List ℕ)) (held written bytes : List ℕ) (count : ℕ) (r : Result T ℕ)
    → written ≡ held → Appends before now (take count written) → OnErr r (WritesFront before now held bytes)
fails_at_once before now held written bytes count (Ok done) e told = tt
fails_at_once before now held written bytes count (Err c) e told =
    fails_first before now held bytes count (subst (λ (l : List ℕ). Appends before now (take count l)) e told)

-- of the parts below an index the first bytes were written, and the others are gathered
pub record UpTo (before now : Option (List ℕ)) (held : List ℕ) (parts : List LogPart) (i : ℕ) : Type 0 where
  pub front : List ℕ
  pub split : parts_bytes parts ≡ front ++ (held ++ parts_bytes (drop i parts))
  pub told : Appends before now front

pub start : (told : Option (List ℕ)) (held : List ℕ) (parts : List LogPart) → held ≡ [] → UpTo told told held parts 0
start told held parts e = record { front = []; split = ap (λ (l : List ℕ). l ++ parts_bytes parts) (sym e); told = appends_none told }

-- the part at an index, before those after it
parts_at : (parts : List LogPart) (i : ℕ) (d : LogPart) → i < length parts → parts_bytes (drop i parts) ≡ part_bytes (get_or parts i d) ++ parts_bytes (drop (i + 1) parts)
parts_at parts i d lt = rw add-one (ap parts_bytes (drop-cons parts i d lt))

-- what was written, what is gathered and the next part, as what is written now and what follows it
next_split : (parts : List LogPart) (i : ℕ) (d : LogPart) (front held more after : List ℕ) → i < length parts
    → parts_bytes parts ≡ front ++ (held ++ parts_bytes (drop i parts))
    → held ++ part_bytes (get_or parts i d) ≡ more ++ after
    → parts_bytes parts ≡ (front ++ more) ++ (after ++ parts_bytes (drop (i + 1) parts))
next_split parts i d front held more after lt split gathered =
    let bytes = part_bytes (get_or parts i d) in
    let rest = parts_bytes (drop (i + 1) parts) in
    split
    ∙ ap (λ (l : List ℕ). front ++ (held ++ l)) (parts_at parts i d lt)
    ∙ ap (λ (l : List ℕ). front ++ l) (sym (append_assoc held bytes rest) ∙ ap (λ (l : List ℕ). l ++ rest) gathered ∙ append_assoc more after rest)
    ∙ sym (append_assoc front more (after ++ rest))

pub more : (before mid now : Option (List ℕ)) (old_held held : List ℕ) (parts : List LogPart) (i : ℕ) (d : LogPart) → i < length parts
    → UpTo before mid old_held parts i → Gathers mid now old_held held (part_bytes (get_or parts i d)) → UpTo before now held parts (i + 1)
more before mid now old_held held parts i d lt so_far next = record {
  front = so_far.front ++ next.front;
  split = next_split parts i d so_far.front old_held next.front held lt so_far.split next.split;
  told = appends_more before mid now so_far.front next.front so_far.told next.told;
}

-- a first part of them was written
pub part : (before mid now : Option (List ℕ)) (held : List ℕ) (parts : List LogPart) (i : ℕ) (d : LogPart) → i < length parts
    → UpTo before mid held parts i → WritesFront mid now held (part_bytes (get_or parts i d))
    → (front : List ℕ) × (rest : List ℕ) × (parts_bytes parts ≡ front ++ rest) × Appends before now front
part before mid now held parts i d lt so_far next = (
  so_far.front ++ next.front,
  next.rest ++ parts_bytes (drop (i + 1) parts),
  next_split parts i d so_far.front held next.front next.rest lt so_far.split next.split,
  appends_more before mid now so_far.front next.front so_far.told next.told,
)

-- all of them are written or gathered
whole_split : (parts : List LogPart) (i : ℕ) (front held : List ℕ) → length parts ≤ i
    → parts_bytes parts ≡ front ++ (held ++ parts_bytes (drop i parts)) → parts_bytes parts ≡ front ++ held
whole_split parts i front held past split =
    split ∙ ap (λ (l : List LogPart). front ++ (held ++ parts_bytes l)) (drop_all i parts past) ∙ ap (λ (l : List ℕ). front ++ l) (append-nil held)

-- all of them were written
pub all : (before mid now : Option (List ℕ)) (held : List ℕ) (parts : List LogPart) (i : ℕ) → length parts ≤ i
    → UpTo before mid held parts i → Appends mid now held → Appends before now (parts_bytes parts)
all before mid now held parts i past so_far last =
    subst (λ (l : List ℕ). Appends before now l) (sym (whole_split parts i so_far.front held past so_far.split)) (appends_more before mid now so_far.front held so_far.told last)

-- a first part of the last ones was written
pub all_but : (before mid now : Option (List ℕ)) (held : List ℕ) (parts : List LogPart) (i count : ℕ) → length parts ≤ i
    → UpTo before mid held parts i → Appends mid now (take count held)
    → (front : List ℕ) × (rest : List ℕ) × (parts_bytes parts ≡ front ++ rest) × Appends before now front
all_but before mid now held parts i count past so_far last = (
  so_far.front ++ take count held,
  drop count held,
  whole_split parts i so_far.front held past so_far.split
      ∙ ap (λ (l : List ℕ). so_far.front ++ l) (sym (take-append-drop count held))
      ∙ sym (append_assoc so_far.front (take count held) (drop count held)),
  appends_more before mid now so_far.front (take count held) so_far.told last,
)

-- the end of a line: what is gathered is written, all of it or a first part
pub gets : {S T : Type 0} (written : S → Option (List ℕ)) (faults : S → ℕ) (before mid now : S) (held last : List ℕ) (parts : List LogPart) (i : ℕ) (r : Result T ℕ)
    → last ≡ held → length parts ≤ i → UpTo (written before) (written mid) held parts i → faults mid ≡ faults before
    → Appends (written mid) (written now) (write_prefix r last) → WriteLeaves (faults mid) (faults now) r
    → Gets written faults before now (parts_bytes parts)
gets written faults before mid now held last parts i (Ok done) e past so_far same told leaves =
    let whole = all (written before) (written mid) (written now) held parts i past so_far (subst (λ (l : List ℕ). Appends (written mid) (written now) l) e told) in
    record { whole = λ _. whole; part = (_, [], sym (append-nil _), whole) }
gets written faults before mid now held last parts i (Err count) e past so_far same told leaves = record {
  whole = λ steady. absurd (omega (arith, leaves.1, same));
  part = all_but (written before) (written mid) (written now) held parts i count past so_far (subst (λ (l : List ℕ). Appends (written mid) (written now) (take count l)) e told);
}
