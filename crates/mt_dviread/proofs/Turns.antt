-- What the next opcode of a file does, as the reader tells it (`turn_goes`, `turn_ends`, `turn_fails`), and the reading
-- after it.
use Rattle.std.proofs.Common.{◌≡◌, ℕ, ◌+◌, ◌<◌, ◌≤◌, List, [], ◌∷◌, length, drop, take, get_or, refl, sym, ◌∙◌, ap, subst, arith}
use Rattle.std.specs.Prelude.{Ok, Err, Option, Some, None, IfSome, IsSome, true}
use Rattle.std.specs.Option.{option_map}
use Rattle.std.proofs.lemmas.Bool.Decides.{nat_tests}
use Rattle.mt_family.specs.SetValue.{SetValue}
use Rattle.mt_dvi.specs.Codes.{Operation, operand_size, operation}
use Rattle.mt_dvi.specs.File as files
use Rattle.mt_dvi.specs.File.{Continues, Ends, Fault, advance, file_step, read, reading}
use Rattle.mt_dvi.specs.Machine as machine
use Rattle.mt_dviread.specs.Errors.{cause_of, fault_of}
use Rattle.mt_dviread.specs.declared.error.Cause.{Cause}
use Rattle.mt_dviread.specs.declared.deed.Deed.{Deed}
use Rattle.mt_dviread.specs.declared.error.DviError.{DviError}
use Rattle.mt_dviread.specs.declared.file.OpenFile.{OpenFile}
use Rattle.mt_dviread.specs.Deeds.{IsDeed}
use Rattle.mt_dviread.specs.Sees.{Finishes, GoesOn, IsReading, IsWithin, Sees, Turns, are_cut}
use Rattle.mt_dviread.specs.inner.Follows.{Follows}
use Rattle.mt_dviread.proofs.Sizes.{size_of_operands}
use Rattle.mt_dviread.proofs.Walk.{at_end, cut_off, ended, failed, went}

-- an opcode at the front of what is left, with its operands and what follows them
pub record IsFront (rest : List ℕ) (code size : ℕ) (operands after : List ℕ) : Type 0 where
  pub there : 1 ≤ length rest
  pub opcode : code ≡ get_or rest 0 0
  pub count : size ≡ operand_size code (drop 1 rest)
  pub long : size ≤ length (drop 1 rest)
  pub taken : operands ≡ take size (drop 1 rest)
  pub left : after ≡ drop size (drop 1 rest)

pub front : (rest later operands after : List ℕ) (code size : ℕ) → 1 ≤ length rest → code ≡ get_or rest 0 0 → later ≡ drop 1 rest → size ≡ operand_size code later → size ≤ length later → operands ≡ take size later → after ≡ drop size later → IsFront rest code size operands after
front rest later operands after code size there opcode is count long taken left =
    let l = ap length is in
    record {
      there = there;
      opcode = opcode;
      count = count ∙ ap (operand_size code) is;
      long = omega (arith, l, long);
      taken = taken ∙ ap (take size) is;
      left = left ∙ ap (drop size) is;
    }

-- the operands are whole
pub whole : (later operands : List ℕ) (code size : ℕ) → size ≡ operand_size code later → operands ≡ take size later → length operands ≡ size → length operands ≡ operand_size code operands
whole later operands code size count taken long =
    long ∙ count ∙ sym (size_of_operands code later) ∙ ap (operand_size code) (ap (λ (n : ℕ). take n later) (sym count) ∙ sym taken)

same_step : (fonts : SetValue) (file : files.File) (x code size : ℕ) (xs operands after : List ℕ) → IsFront (x ∷ xs) code size operands after
    → file_step fonts file (operation code operands) after ≡ file_step fonts file (operation x (take (operand_size x xs) xs)) (drop (operand_size x xs) xs)
same_step fonts file x code size xs operands after f =
    let a : code ≡ x = f.opcode in
    let b : size ≡ operand_size x xs = f.count ∙ ap (λ (n : ℕ). operand_size n xs) a in
    let c : operands ≡ take (operand_size x xs) xs = f.taken ∙ ap (λ (n : ℕ). take n xs) b in
    let d : after ≡ drop (operand_size x xs) xs = f.left ∙ ap (λ (n : ℕ). drop n xs) b in
    rw (a, c, d) refl

front_size : (x code size : ℕ) (xs operands after : List ℕ) → IsFront (x ∷ xs) code size operands after → size ≡ operand_size x xs
front_size x code size xs operands after f = f.count ∙ ap (λ (n : ℕ). operand_size n xs) f.opcode

-- an error of a cause
refused : (P : Fault → Type 0) (at : ℕ) (cause : Option machine.Cause) (fault : Option Fault) → fault ≡ option_map (λ (c : machine.Cause). record { cause = c; at = at }) cause
    → IfSome cause (λ c. P (record { cause = c; at = at })) → IfSome fault P
refused P at None fault e h = rw e tt
refused P at (Some cause) fault e h = rw e h

pub if_some : {A : Type 0} {P Q : A → Type 0} (o : Option A) → ((x : A) → P x → Q x) → IfSome o P → IfSome o Q
if_some None f h = h
if_some (Some x) f h = f x h

-- the reader is further on
advanced : (fonts : SetValue) (o newer : OpenFile) (file : files.File) (m n : ℕ) → m ≡ n → newer ≡ record o { at = o.at + n; rest = newer.rest } → Sees fonts o file → Sees fonts newer (advance file m)
advanced fonts o newer file m n e is s = subst (λ (x : OpenFile). Sees fonts x (advance file m)) (sym is) (record {
  at = (let a = s.at in omega (arith, a, e));
  phase = s.phase;
  mag = s.mag;
  known = s.known;
  again = s.again;
  pages = s.pages;
  machine = s.machine;
  last = s.last;
  deepest = s.deepest;
  place_count = s.place_count;
  post_at = s.post_at;
  few = s.few;
})

same_operation : (x code size : ℕ) (xs operands after : List ℕ) → IsFront (x ∷ xs) code size operands after → operation code operands ≡ operation x (take (operand_size x xs) xs)
same_operation x code size xs operands after f =
    let a : code ≡ x = f.opcode in
    let b : size ≡ operand_size x xs = f.count ∙ ap (λ (n : ℕ). operand_size n xs) a in
    let c : operands ≡ take (operand_size x xs) xs = f.taken ∙ ap (λ (n : ℕ). take n xs) b in
    rw (a, c) refl

-- the file goes on
pub turn_goes : (fonts : SetValue) (file : files.File) (o new newer : OpenFile) (bytes : List ℕ) (code size : ℕ) (operands after : List ℕ) (deed : Deed) → IsFront bytes code size operands after
    → Follows fonts file.phase file (operation code operands) (Ok (Some deed)) new (file_step fonts file (operation code operands) after)
    → newer ≡ record new { at = new.at + (size + 1); rest = newer.rest } → newer.rest.now ≡ after → GoesOn fonts file bytes deed newer
turn_goes fonts file o new newer [] code size operands after deed f h is left = absurd (let t = f.there in omega (arith, t))
turn_goes fonts file o new newer (x ∷ xs) code size operands after deed f h is left =
    let a = h.0 in
    let e : size ≡ operand_size x xs = front_size x code size xs operands after f in
    let l = f.long in
    record {
      code = x;
      later = xs;
      begins = record { is = refl; long = omega (arith, e, l) };
      next = a.next;
      continues = sym (same_step fonts file x code size xs operands after f) ∙ a.continues;
      sees = advanced fonts new newer a.next (operand_size x xs + 1) (size + 1) (ap (λ (k : ℕ). k + 1) (sym e)) is a.sees;
      left = left ∙ f.left ∙ ap (λ (k : ℕ). drop k xs) e;
      changes = a.changes;
      is_deed = subst (λ (op : Operation). IsDeed deed file.phase op) (same_operation x code size xs operands after f) h.1;
    }

-- the file ends
pub turn_ends : (fonts : SetValue) (file : files.File) (o new newer : OpenFile) (bytes : List ℕ) (code size : ℕ) (operands after : List ℕ) → IsFront bytes code size operands after
    → Follows fonts file.phase file (operation code operands) (Ok None) new (file_step fonts file (operation code operands) after)
    → newer ≡ record new { at = new.at + (size + 1); rest = newer.rest } → Finishes fonts file bytes newer
turn_ends fonts file o new newer [] code size operands after f h is = absurd (let t = f.there in omega (arith, t))
turn_ends fonts file o new newer (x ∷ xs) code size operands after f h is =
    let e : size ≡ operand_size x xs = front_size x code size xs operands after f in
    let l = f.long in
    record {
      code = x;
      later = xs;
      begins = record { is = refl; long = omega (arith, e, l) };
      last = h.last;
      ends = sym (same_step fonts file x code size xs operands after f) ∙ h.ends;
      pages = h.pages;
      mag = h.mag ∙ sym (ap (λ (n : OpenFile). n.mag) is);
      small = h.small;
    }

-- one or the other
pub turns_on : (fonts : SetValue) (file : files.File) (o new newer : OpenFile) (bytes : List ℕ) (code size : ℕ) (operands after : List ℕ) (deed : Option Deed) → IsFront bytes code size operands after
    → Follows fonts file.phase file (operation code operands) (Ok deed) new (file_step fonts file (operation code operands) after)
    → newer ≡ record new { at = new.at + (size + 1); rest = newer.rest } → newer.rest.now ≡ after → Turns fonts file bytes (Ok deed) newer
turns_on fonts file o new newer bytes code size operands after None f h is left = turn_ends fonts file o new newer bytes code size operands after f h is
turns_on fonts file o new newer bytes code size operands after (Some deed) f h is left = turn_goes fonts file o new newer bytes code size operands after deed f h is left

-- the operation is refused
pub turn_fails : (fonts : SetValue) (file : files.File) (o new : OpenFile) (bytes : List ℕ) (code size : ℕ) (operands after : List ℕ) (cause : Cause) (error : DviError) → Sees fonts o file → IsFront bytes code size operands after
    → Follows fonts file.phase file (operation code operands) (Err cause) new (file_step fonts file (operation code operands) after)
    → fault_of error ≡ option_map (λ (c : machine.Cause). record { cause = c; at = o.at }) (cause_of cause) → Turns fonts file bytes (Err error) new
turn_fails fonts file o new [] code size operands after cause error s f h is = absurd (let t = f.there in omega (arith, t))
turn_fails fonts file o new (x ∷ xs) code size operands after cause error s f h is =
    let e : size ≡ operand_size x xs = front_size x code size xs operands after f in
    let l = f.long in
    let long : operand_size x xs ≤ length xs = omega (arith, e, l) in
    refused (λ fault. reading fonts file 0 (x ∷ xs) ≡ Err fault) o.at (cause_of cause) (fault_of error) is
    (if_some (cause_of cause)
    (λ c g. failed fonts file c x xs long (sym (same_step fonts file x code size xs operands after f) ∙ g) ∙ ap (λ (n : ℕ). Err (record { cause = c; at = n })) s.at)
    h)

-- the operands are cut off
pub turn_cut : (fonts : SetValue) (file : files.File) (o : OpenFile) (bytes : List ℕ) (code size : ℕ) → Sees fonts o file → 1 ≤ length bytes → code ≡ get_or bytes 0 0 → size ≡ operand_size code (drop 1 bytes) → length (drop 1 bytes) < size
    → reading fonts file 0 bytes ≡ Err (record { cause = machine.Truncated; at = o.at })
turn_cut fonts file o [] code size s there is e short = absurd (omega (arith, there))
turn_cut fonts file o (x ∷ xs) code size s there is e short =
    let same : size ≡ operand_size x xs = e ∙ ap (λ (n : ℕ). operand_size n xs) is in
    cut_off fonts file x xs (omega (arith, same, short)) ∙ ap (λ (n : ℕ). Err (record { cause = machine.Truncated; at = n })) s.at

-- nothing is left
pub turn_out : (fonts : SetValue) (file : files.File) (o : OpenFile) (bytes : List ℕ) → Sees fonts o file → length bytes ≡ 0 → reading fonts file 0 bytes ≡ Err (record { cause = machine.Truncated; at = o.at })
turn_out fonts file o [] s e = at_end fonts file ∙ ap (λ (n : ℕ). Err (record { cause = machine.Truncated; at = n })) s.at
turn_out fonts file o (x ∷ bytes) s e = absurd (omega (arith, e))

-- the reading begins
pub starts : (fonts : SetValue) (bytes : List ℕ) (o : OpenFile) → Sees fonts o files.at_start → IsWithin o → o.rest.now ≡ bytes → IsReading fonts bytes o files.at_start
unfolding read
starts fonts bytes o s within is = record { sees = s; reads = ap (reading fonts files.at_start 0) (sym is); within = within; at = (let a = s.at in let l = ap length is in omega (arith, a, l)) }

-- the file after an opcode that these bytes begin with
abbrev pub file_after : (fonts : SetValue) (file : files.File) (bytes : List ℕ) (deed : Deed) (new : OpenFile) → GoesOn fonts file bytes deed new → files.File
file_after fonts file bytes deed new t = advance t.next (operand_size t.code t.later + 1)

-- the reading goes on
pub reads_on : (fonts : SetValue) (bytes : List ℕ) (o new : OpenFile) (file : files.File) (deed : Deed) (t : GoesOn fonts file o.rest.now deed new) → IsReading fonts bytes o file → IsWithin new
    → new.at + length new.rest.now ≡ o.at + length o.rest.now → IsReading fonts bytes new (file_after fonts file o.rest.now deed new t)
reads_on fonts bytes o new file deed t r within same =
    let b = t.begins in
    record {
      sees = t.sees;
      reads = r.reads ∙ ap (reading fonts file 0) b.is ∙ went fonts file t.next t.code t.later b.long t.continues ∙ ap (reading fonts (file_after fonts file o.rest.now deed new t) 0) (sym t.left);
      within = within;
      at = same ∙ r.at;
    }

-- it comes to the file's end
pub reads_out : (fonts : SetValue) (bytes : List ℕ) (o new : OpenFile) (file : files.File) (t : Finishes fonts file o.rest.now new) → IsReading fonts bytes o file → read fonts bytes ≡ Ok t.last
reads_out fonts bytes o new file t r =
    let b = t.begins in
    r.reads ∙ ap (reading fonts file 0) b.is ∙ ended fonts file t.last t.code t.later b.long t.ends

-- it comes to a fault
pub reads_fault : (fonts : SetValue) (bytes : List ℕ) (o new : OpenFile) (file : files.File) (error : DviError) → IsReading fonts bytes o file → Turns fonts file o.rest.now (Err error) new
    → IfSome (fault_of error) (λ (fault : Fault). read fonts bytes ≡ Err fault)
reads_fault fonts bytes o new file error r t = if_some (fault_of error) (λ fault e. r.reads ∙ e) t

-- an opcode with all its operands
pub not_cut : (bytes : List ℕ) (code size : ℕ) (operands after : List ℕ) → IsFront bytes code size operands after → are_cut bytes ≡ true → ⊥
not_cut [] code size operands after f e = (let t = f.there in omega (arith, t))
not_cut (x ∷ xs) code size operands after f e =
    let s = front_size x code size xs operands after f in
    let l = f.long in
    let lt : length xs < operand_size x xs = grind (arith, nat_tests) in
    omega (arith, s, l, lt)

-- the fault of a cause
pub cause_told : (at : ℕ) (cause : Option machine.Cause) (fault : Option Fault) → fault ≡ option_map (λ (c : machine.Cause). let f : Fault = record { cause = c; at = at } in f) cause → IsSome cause → IsSome fault
cause_told at None fault e some = absurd (cc)
cause_told at (Some c) fault e some = rw e refl
