-- The pass over a file that copies its pages (`copying_starts`, `copying_on`, `copying_done`, `copying_fault`).
use Rattle.std.proofs.Common.{◌≡◌, ℕ, suc, ◌+◌, ◌-◌, ◌^◌, ◌<◌, ◌≤◌, List, [], ◌∷◌, ◌++◌, length, take, drop, refl, sym, ◌∙◌, ap, subst, arith, length-append, length-drop, take-take, drop-drop, inl, inr, ◌⊎◌}
use Rattle.std.specs.Prelude.{ℤ, Option, Some, None, Ok, Err, IfSome, max, ⊤}
use Rattle.std.proofs.lemmas.Bool.Decides.{nat_tests}
use Rattle.mt_family.specs.SetValue.{IsSet, SetValue}
use Rattle.mt_box.specs.declared.place.Place.{Place}
use Rattle.mt_dvi.specs.Opcodes.{fnt_num_0}
use Rattle.mt_dvi.specs.Codes.{Operation, Bop, bytes_from, operand_size, operation}
use Rattle.mt_dvi.specs.File.{File, Phase, BetweenPages, InPage, AfterPost, Continues, Fault, Reading, advance, at_start, phase_step, read}
use Rattle.mt_dvi.specs.Machine.{Machine}
use Rattle.mt_dviread.specs.declared.deed.Deed.{Deed}
use Rattle.mt_dviread.specs.declared.deed.Deed.TheVariants as deeds
use Rattle.mt_dviread.specs.declared.error.DviError.{DviError}
use Rattle.mt_dviread.specs.declared.file.OpenFile.{OpenFile}
use Rattle.mt_dviread.specs.Deeds.{Changes, IsDeed, deed_of, place_filled, places_of_page, places_with}
use Rattle.mt_dviread.specs.Errors.{fault_of}
use Rattle.mt_dviread.specs.Sees.{Finishes, GoesOn, IsWithin, Sees, Turns}
use Rattle.mt_dviread.proofs.Turns.{if_some, reads_fault, reads_on, reads_out, starts}
use Rattle.mt_dviops.specs.declared.copies.CopiedPage.{CopiedPage}
use Rattle.mt_dviops.specs.declared.copies.Copies.{Copies}
use Rattle.mt_dviops.specs.Source.{Source, SourceFile, SourcePage, copy_selection, copy_step, empty_source, no_source, source_by, source_file_of, walked_pages}
use Rattle.mt_dviops.specs.Walk.{Step, walked, walking}
use Rattle.mt_dviops.specs.inner.Copies.{Holds}
use Rattle.mt_dviops.specs.inner.Copying.{AreCopied, KeptCopies, HoldsOpen, IsCopying, SelectsAny, TakesDeed, noted_by, begun_page, including_places}
use Rattle.mt_dviops.specs.inner.Placed.{IsPlaced}
use Rattle.mt_dviops.proofs.Copying.{all_grow, all_held, noted_is, one_ends, open_begins, open_ends, open_performs, open_selects}
use Rattle.mt_dviops.proofs.InPageDeeds.{Did, Where, eop_between, in_page_did, in_page_does, selected_low, selects_did, where_is}
use Rattle.mt_dviops.proofs.PageCopies.{length_take}
use Rattle.mt_dviops.proofs.WalkLemmas.{walk_ended, walk_went}
use Rattle.mt_dviops.proofs.Walked.{bop_size, ends_same}

-- what is known of the opcode of a deed
abbrev pub Known : List ℕ → ℕ → List ℕ → File → File → Deed → Type 0
Known bytes counts operands file next deeds.Passes = ⊤
Known bytes counts operands file next deeds.BeginsPage = (counts + 40 ≤ length bytes) × (bytes_from counts 40 bytes ≡ take 40 operands)
Known bytes counts operands file next deeds.EndsPage = (file.phase ≡ InPage) × (next.phase ≡ BetweenPages)
Known bytes counts operands file next deeds.Selects = (file.phase ≡ InPage) × (next.phase ≡ InPage)
Known bytes counts operands file next (deeds.Performs place) = (file.phase ≡ InPage) × (next.phase ≡ InPage)

-- what has been copied after a deed
copied_on : (fonts : SetValue) (bytes : List ℕ) (file next : File) (n : ℕ) (noted : Source) (code : ℕ) (operands : List ℕ) (old new : KeptCopies) (deed : Deed) (counts : ℕ)
    → AreCopied fonts bytes old noted file → Changes deed file next → length (places_of_page file.page) < 2 ^ 32 - 1 → Known bytes counts operands file next deed
    → TakesDeed fonts (Ok tt) old new deed counts (code ∷ operands) next.machine
    → AreCopied fonts bytes new (noted_by deed noted (record { code = code; operands = operands; before = file; after = next })) (advance next n)
copied_on fonts bytes file next n noted code operands old new deeds.Passes counts k c few known takes =
    subst (λ (o : KeptCopies). AreCopied fonts bytes o noted (advance next n)) (sym takes) (record { ended = k.ended; begun = λ p. from (c.begun p) }) where
      from : (deeds.Passes ≡ deeds.BeginsPage) ⊎ (file.phase ≡ InPage) → HoldsOpen fonts bytes old.bodies old.page noted.page (places_of_page next.page)
      from (inl e) = absurd (cc)
      from (inr q) = subst (λ (l : List Place). HoldsOpen fonts bytes old.bodies old.page noted.page l) (sym c.places) (k.begun q)
copied_on fonts bytes file next n noted code operands old new deeds.BeginsPage counts k c few known takes =
    subst (λ (o : KeptCopies). AreCopied fonts bytes o (record noted { page = empty_source (take 40 operands) }) (advance next n)) (sym takes) (record {
      ended = k.ended;
      begun = λ p. subst (λ (l : List Place). HoldsOpen fonts bytes old.bodies (begun_page counts (length old.bodies)) (empty_source (take 40 operands)) l) (sym c.places) (open_begins fonts bytes old.bodies counts operands known.0 known.1);
    })
copied_on fonts bytes file next n noted code operands old new deeds.EndsPage counts k c few known takes =
    let bodies : new.bodies ≡ old.bodies = ap (λ (o : KeptCopies). o.bodies) takes.0 in
    record {
      ended = rw (bodies, takes.1) (one_ends fonts bytes old.bodies old.pages noted.pages (record (old.page) { end = length old.bodies }) (record (noted.page) { page = file.page }) k.ended
          (open_ends fonts bytes old.bodies old.page noted.page file.page (k.begun known.0)));
      begun = λ p. absurd (let q = known.1 in cc);
    }
copied_on fonts bytes file next n noted code operands old new deeds.Selects counts k c few known takes = by_font next.machine.font takes where
  by_font : (font : Option ℕ) → SelectsAny (Ok tt) old new font → AreCopied fonts bytes new (record noted { page = copy_selection noted.page font }) (advance next n)
  by_font None is = subst (λ (o : KeptCopies). AreCopied fonts bytes o noted (advance next n)) (sym is) (record {
    ended = k.ended;
    begun = λ p. subst (λ (l : List Place). HoldsOpen fonts bytes old.bodies old.page noted.page l) (sym c.places) (k.begun known.0);
  })
  by_font (Some font) is =
      let pages : new.pages ≡ old.pages = ap (λ (o : KeptCopies). o.pages) is.0 in
      let page : new.page ≡ record (old.page) { fonts = new.page.fonts } = ap (λ (o : KeptCopies). o.page) is.0 in
      record {
        ended = rw (is.1, pages) (all_grow fonts bytes old.bodies ((fnt_num_0 + font) ∷ []) old.pages noted.pages k.ended);
        begun = λ p. subst (λ (q : CopiedPage). HoldsOpen fonts bytes new.bodies q (copy_selection noted.page (Some font)) (places_of_page next.page)) (sym page)
            (subst (λ (l : List Place). HoldsOpen fonts bytes new.bodies (record (old.page) { fonts = new.page.fonts }) (copy_selection noted.page (Some font)) l) (sym c.places)
            (subst (λ (b : List ℕ). HoldsOpen fonts bytes b (record (old.page) { fonts = new.page.fonts }) (copy_selection noted.page (Some font)) (places_of_page file.page)) (sym is.1)
            (open_selects fonts bytes old.bodies old.page noted.page (places_of_page file.page) font new.page.fonts (k.begun known.0) is.2)));
      }
copied_on fonts bytes file next n noted code operands old new (deeds.Performs place) counts k c few known takes =
    let pages : new.pages ≡ old.pages = ap (λ (o : KeptCopies). o.pages) takes.0 in
    let depth = length next.machine.saved in
    let kept : CopiedPage = including_places fonts (record (old.page) { depth = max old.page.depth depth }) place in
    let page : new.page ≡ kept = ap (λ (o : KeptCopies). o.page) takes.0 in
    let noted_page : SourcePage = record (noted.page) { body = noted.page.body ++ code ∷ operands; depth = max noted.page.depth depth } in
    record {
      ended = rw (takes.1, pages) (all_grow fonts bytes old.bodies (code ∷ operands) old.pages noted.pages k.ended);
      begun = λ p. subst (λ (q : CopiedPage). HoldsOpen fonts bytes new.bodies q noted_page (places_of_page next.page)) (sym page)
          (subst (λ (l : List Place). HoldsOpen fonts bytes new.bodies kept noted_page l) (sym c.places)
          (subst (λ (b : List ℕ). HoldsOpen fonts bytes b kept noted_page (places_with (places_of_page file.page) place)) (sym takes.1)
          (open_performs fonts bytes old.bodies old.page noted.page (places_of_page file.page) (code ∷ operands) place depth few (k.begun known.0))));
    }

-- the bodies grow by no more than the opcode
grows : (fonts : SetValue) (old new : KeptCopies) (deed : Deed) (counts : ℕ) (opcode : List ℕ) (m : Machine) → TakesDeed fonts (Ok tt) old new deed counts opcode m → 1 ≤ length opcode → length new.bodies ≤ length old.bodies + length opcode
grows fonts old new deeds.Passes counts opcode m takes long = let l = ap (λ (o : KeptCopies). length o.bodies) takes in omega (arith, l)
grows fonts old new deeds.BeginsPage counts opcode m takes long = let l = ap (λ (o : KeptCopies). length o.bodies) takes in omega (arith, l)
grows fonts old new deeds.EndsPage counts opcode m takes long = let l = ap (λ (o : KeptCopies). length o.bodies) takes.0 in omega (arith, l)
grows fonts old new deeds.Selects counts opcode m takes long = by_font m.font takes where
  by_font : (font : Option ℕ) → SelectsAny (Ok tt) old new font → length new.bodies ≤ length old.bodies + length opcode
  by_font None is = let l = ap (λ (o : KeptCopies). length o.bodies) is in omega (arith, l)
  by_font (Some font) is = let l = ap length is.1 in let a = length-append old.bodies ((fnt_num_0 + font) ∷ []) in omega (arith, l, a, long)
grows fonts old new (deeds.Performs place) counts opcode m takes long = let l = ap length takes.1 in let a = length-append old.bodies opcode in omega (arith, l, a)

-- after post no body grows
posted_on : (fonts : SetValue) (bytes operands opcode : List ℕ) (file next : File) (old new : KeptCopies) (deed : Deed) (counts : ℕ) (m : Machine) → TakesDeed fonts (Ok tt) old new deed counts opcode m → Changes deed file next → Known bytes counts operands file next deed
    → length old.bodies ≤ file.at → (file.phase ≡ AfterPost → length old.bodies ≤ file.post_at) → next.phase ≡ AfterPost → length new.bodies ≤ next.post_at
posted_on fonts bytes operands opcode file next old new deed counts m takes c known short posted p = at_post (c.posted p) where
  same : (d : Deed) → TakesDeed fonts (Ok tt) old new d counts opcode m → Known bytes counts operands file next d → length new.bodies ≡ length old.bodies
  same deeds.Passes t w = ap (λ (o : KeptCopies). length o.bodies) t
  same deeds.BeginsPage t w = ap (λ (o : KeptCopies). length o.bodies) t
  same deeds.EndsPage t w = ap (λ (o : KeptCopies). length o.bodies) t.0
  same deeds.Selects t w = absurd (let q = w.1 in cc)
  same (deeds.Performs place) t w = absurd (let q = w.1 in cc)

  at_post : (next.post_at ≡ file.at) ⊎ ((file.phase ≡ AfterPost) × (next.post_at ≡ file.post_at)) → length new.bodies ≤ next.post_at
  at_post (inl e) = let s = same deed takes known in omega (arith, e, s, short)
  at_post (inr (q, e)) = let s = same deed takes known in let l = posted q in omega (arith, e, s, l)

-- no more places on the page than in the file
few_on : (deed : Deed) (file next : File) → Changes deed file next → length (places_of_page file.page) ≤ file.place_count → length (places_of_page next.page) ≤ next.place_count
few_on deeds.Passes file next c few = let p = ap length c.places in let n = c.count in omega (arith, p, n, few)
few_on deeds.BeginsPage file next c few = let p = ap length c.places in let n = c.count in omega (arith, p, n, few)
few_on deeds.EndsPage file next c few = let p = ap length c.places in let n = c.count in omega (arith, p, n, few)
few_on deeds.Selects file next c few = let p = ap length c.places in let n = c.count in omega (arith, p, n, few)
few_on (deeds.Performs None) file next c few = let p = ap length c.places in let n = c.count in omega (arith, p, n, few)
few_on (deeds.Performs (Some place)) file next c few = let p = ap length c.places in let n = c.count in let l = length-append (places_of_page file.page) (place ∷ []) in omega (arith, p, n, l, few)

-- the ten counts of a bop
after_first : (at x : ℕ) (bytes later rest : List ℕ) → rest ≡ drop at bytes → rest ≡ x ∷ later → drop (at + 1) bytes ≡ later
after_first at x bytes later rest left is = sym (drop-drop 1 at bytes) ∙ ap (drop 1) (sym left ∙ is)

bop_code : (code : ℕ) (o counts : List ℕ) (before : ℤ) → operation code o ≡ Bop counts before → code ≡ 139
unfolding operation
bop_code code o counts before e = grind (arith, nat_tests)

bop_there : (at code : ℕ) (bytes later rest counts : List ℕ) (before : ℤ) → rest ≡ drop at bytes → rest ≡ code ∷ later → at + length rest ≡ length bytes → operand_size code later ≤ length later
    → operation code (take (operand_size code later) later) ≡ Bop counts before → (at + 1 + 40 ≤ length bytes) × (bytes_from (at + 1) 40 bytes ≡ take 40 (take (operand_size code later) later))
bop_there at code bytes later rest counts before left is all long op =
    let c = bop_code code (take (operand_size code later) later) counts before op in
    let size : operand_size code later ≡ 44 = ap (λ (x : ℕ). operand_size x later) c ∙ bop_size later in
    let l = ap length is in (
      omega (arith, l, all, size, long),
      ap (take 40) (after_first at code bytes later rest left is) ∙ sym (take-take 40 44 later (omega arith)) ∙ ap (λ (k : ℕ). take 40 (take k later)) (sym size),
    )

-- an operation of a page
performs_did : (fonts : SetValue) (file next : File) (phase : Phase) (op : Operation) (after : List ℕ) (place : Option Place) → phase ≡ InPage → IsDeed (deeds.Performs place) phase op → phase_step phase fonts file op after ≡ Continues next → Did fonts file next
performs_did fonts file next phase op after place p d e =
    in_page_did fonts file next op place (d ∙ ap (λ (x : Phase). deed_of x op place) p) (in_page_does fonts file next phase op op after p refl e)

-- what is known of an opcode, by its deed
known_by : (fonts : SetValue) (bytes : List ℕ) (at code : ℕ) (later rest after : List ℕ) (file next : File) (op : Operation) (deed : Deed)
    → rest ≡ drop at bytes → rest ≡ code ∷ later → at + length rest ≡ length bytes → operand_size code later ≤ length later → op ≡ operation code (take (operand_size code later) later)
    → phase_step file.phase fonts file op after ≡ Continues next → IsDeed deed file.phase op → Where deed file.phase op → Known bytes (at + 1) (take (operand_size code later) later) file next deed
known_by fonts bytes at code later rest after file next op deeds.Passes left is all long o e d w = tt
known_by fonts bytes at code later rest after file next op deeds.BeginsPage left is all long o e d (counts, before, bop) = bop_there at code bytes later rest counts before left is all long (sym o ∙ bop)
known_by fonts bytes at code later rest after file next op deeds.EndsPage left is all long o e d (phase, eop) = (phase, eop_between fonts file next (in_page_does fonts file next file.phase op _ after phase eop e))
known_by fonts bytes at code later rest after file next op deeds.Selects left is all long o e d (phase, (number, select)) = (phase, (selects_did fonts file next number (in_page_does fonts file next file.phase op _ after phase select e)).phase ∙ phase)
known_by fonts bytes at code later rest after file next op (deeds.Performs place) left is all long o e d phase =
    (phase, (performs_did fonts file next file.phase op after place phase d e).phase ∙ phase)

-- one turn of the pass
turn_on : (fonts : SetValue) (bytes opcode : List ℕ) (o new : OpenFile) (old newer : KeptCopies) (deed : Deed) (counts : ℕ) (k : IsCopying fonts bytes o old) → GoesOn fonts k.file o.rest.now deed new → IsWithin new
    → new.at + length new.rest.now ≡ o.at + length o.rest.now → counts ≡ o.at + 1 → opcode ≡ take (new.at - o.at) o.rest.now → TakesDeed fonts (Ok tt) old newer deed counts opcode new.machine → IsCopying fonts bytes new newer
turn_on fonts bytes opcode o new old newer deed counts k t within same at is takes =
    let size = operand_size t.code t.later in
    let operands = take size t.later in
    let step : Step = record { code = t.code; operands = operands; before = k.file; after = t.next } in
    let b = t.begins in
    let long = b.long in
    let whole = ap length b.is in
    let fewer = ap length t.left ∙ length-drop size t.later in
    let on : new.at ≡ o.at + (size + 1) = omega (arith, same, whole, fewer, long) in
    let reach : o.at + (1 + size) ≡ new.at = omega (arith, on) in
    let front : opcode ≡ t.code ∷ operands = is ∙ ap (λ (n : ℕ). take n o.rest.now) (opcode_size new.at o.at size on) ∙ ap (take (suc size)) b.is in
    let known : Known bytes (o.at + 1) operands k.file t.next deed =
    known_by fonts bytes o.at t.code t.later o.rest.now (drop size t.later) k.file t.next (operation t.code operands) deed k.left b.is k.reading.at b.long refl t.continues t.is_deed (where_is deed k.file.phase (operation t.code operands) t.is_deed) in
    let taken : TakesDeed fonts (Ok tt) old newer deed (o.at + 1) (t.code ∷ operands) t.next.machine =
    subst (λ (m : Machine). TakesDeed fonts (Ok tt) old newer deed (o.at + 1) (t.code ∷ operands) m) (sym t.sees.machine)
    (subst (λ (c : List ℕ). TakesDeed fonts (Ok tt) old newer deed (o.at + 1) c new.machine) front
    (subst (λ (n : ℕ). TakesDeed fonts (Ok tt) old newer deed n opcode new.machine) at takes)) in
    let one : 1 ≤ length (t.code ∷ operands) = omega arith in
    let grown = grows fonts old newer deed (o.at + 1) (t.code ∷ operands) t.next.machine taken one in
    let short = k.short in
    let count = k.reading.sees.place_count in
    let few = k.reading.sees.few in
    let mine = k.few in
    let here = k.reading.sees.at in
    let there = t.sees.at in
    let size_is = length_operands size t.later long in
    let whole_file = k.reading.at in
    record {
      file = advance t.next (size + 1);
      noted = noted_by deed k.noted step;
      reading = reads_on fonts bytes o new k.file deed t k.reading within same;
      left = t.left ∙ drop-drop size 1 (t.code ∷ t.later) ∙ sym (ap (drop (1 + size)) b.is) ∙ ap (drop (1 + size)) k.left ∙ drop-drop (1 + size) o.at bytes ∙ ap (λ (n : ℕ). drop n bytes) reach;
      walks =
          k.walks ∙ ap (walking fonts copy_step k.file k.noted 0) b.is ∙ walk_went fonts copy_step k.file t.next k.noted t.code t.later b.long t.continues
          ∙ ap (λ (s : Source). walking fonts copy_step (advance t.next (size + 1)) s 0 (drop size t.later)) (noted_is k.noted step deed t.is_deed)
          ∙ ap (walking fonts copy_step (advance t.next (size + 1)) (noted_by deed k.noted step) 0) (sym t.left);
      copies = copied_on fonts bytes k.file t.next (size + 1) k.noted t.code operands old newer deed (o.at + 1) k.copies t.changes (omega (arith, mine, count, few)) known taken;
      short = omega (arith, grown, short, here, there, on, size_is);
      posted = λ p. posted_on fonts bytes operands (t.code ∷ operands) k.file t.next old newer deed (o.at + 1) t.next.machine taken t.changes known k.short k.posted p;
      few = few_on deed k.file t.next t.changes k.few;
    } where
      opcode_size : (b a n : ℕ) → b ≡ a + (n + 1) → b - a ≡ suc n
      opcode_size b a n e = omega (arith, e)

      length_operands : (n : ℕ) (l : List ℕ) → n ≤ length l → length (take n l) ≡ n
      length_operands n l le = length_take n l le

-- one turn of the pass
pub copying_on : (fonts : SetValue) (bytes opcode : List ℕ) (o new : OpenFile) (old newer : KeptCopies) (deed : Deed) (counts : ℕ) → IsCopying fonts bytes o old
    → ((file : File) → Sees fonts o file → GoesOn fonts file o.rest.now deed new) → IsWithin new → new.at + length new.rest.now ≡ o.at + length o.rest.now
    → TakesDeed fonts (Ok tt) old newer deed counts opcode new.machine → counts ≡ o.at + 1 → opcode ≡ take (new.at - o.at) o.rest.now → IsCopying fonts bytes new newer
copying_on fonts bytes opcode o new old newer deed counts k turns within same takes at bytes_are =
    let t = turns k.file k.reading.sees in
    turn_on fonts bytes opcode o new old newer deed counts k t within same at bytes_are takes

-- what taking a deed asks for
pub deed_placed : (fonts : SetValue) (bytes : List ℕ) (o new : OpenFile) (old : KeptCopies) (deed : Deed) → IsCopying fonts bytes o old → ((file : File) → Sees fonts o file → GoesOn fonts file o.rest.now deed new) → IfSome (place_filled deed) (IsPlaced fonts)
deed_placed fonts bytes o new old deed k turns = let t = turns k.file k.reading.sees in by_deed deed t where
  by_deed : (d : Deed) → GoesOn fonts k.file o.rest.now d new → IfSome (place_filled d) (IsPlaced fonts)
  by_deed deeds.Passes t = tt
  by_deed deeds.BeginsPage t = tt
  by_deed deeds.EndsPage t = tt
  by_deed deeds.Selects t = tt
  by_deed (deeds.Performs None) t = tt
  by_deed (deeds.Performs (Some place)) t =
      (performs_did fonts k.file t.next k.file.phase (operation t.code (take (operand_size t.code t.later) t.later)) (drop (operand_size t.code t.later) t.later) (Some place) (where_is (deeds.Performs (Some place)) k.file.phase (operation t.code (take (operand_size t.code t.later) t.later)) t.is_deed) t.is_deed t.continues).placed place t.changes.places

pub deed_font : (fonts : SetValue) (bytes : List ℕ) (o new : OpenFile) (old : KeptCopies) (deed : Deed) → IsSet fonts → IsCopying fonts bytes o old → ((file : File) → Sees fonts o file → GoesOn fonts file o.rest.now deed new)
    → deed ≡ deeds.Selects → (n : ℕ) → new.machine.font ≡ Some n → n < 48
deed_font fonts bytes o new old deed set k turns e n is = by_deed deed e (turns k.file k.reading.sees) where
  by_where : (t : GoesOn fonts k.file o.rest.now deeds.Selects new) → Where deeds.Selects k.file.phase (operation t.code (take (operand_size t.code t.later) t.later)) → n < 48
  by_where t (phase, (number, select)) =
      selected_low fonts k.file t.next number set (in_page_does fonts k.file t.next k.file.phase (operation t.code (take (operand_size t.code t.later) t.later)) _ (drop (operand_size t.code t.later) t.later) phase select t.continues) n (ap (λ (m : Machine). m.font) t.sees.machine ∙ is)

  by_deed : (d : Deed) → d ≡ deeds.Selects → GoesOn fonts k.file o.rest.now d new → n < 48
  by_deed deeds.Passes i t = absurd (cc)
  by_deed deeds.BeginsPage i t = absurd (cc)
  by_deed deeds.EndsPage i t = absurd (cc)
  by_deed deeds.Selects i t = by_where t (where_is deeds.Selects k.file.phase (operation t.code (take (operand_size t.code t.later) t.later)) t.is_deed)
  by_deed (deeds.Performs place) i t = absurd (cc)

-- the pass begins
pub copying_starts : (fonts : SetValue) (bytes : List ℕ) (o : OpenFile) (copied : KeptCopies) → Sees fonts o at_start → IsWithin o → o.rest.now ≡ bytes → copied.bodies ≡ [] → copied.pages ≡ [] → IsCopying fonts bytes o copied
unfolding walked
copying_starts fonts bytes o copied s within is bodies pages =
    let l = ap length bodies in
    record {
      file = at_start;
      noted = no_source;
      reading = starts fonts bytes o s within is;
      left = is ∙ ap (λ (n : ℕ). drop n bytes) s.at;
      walks = ap (walking fonts copy_step at_start no_source 0) (sym is);
      copies = record { ended = rw (bodies, pages) tt; begun = λ p. absurd (cc) };
      short = omega (arith, l);
      posted = λ p. absurd (cc);
      few = omega arith;
    }

-- the file has been read to its end
source_is : (fonts : SetValue) (bytes : List ℕ) (last : File) (noted : Source) → read fonts bytes ≡ Ok last → walked fonts copy_step no_source bytes ≡ noted → source_file_of fonts bytes ≡ Ok (record { mag = last.mag; pages = noted.pages })
unfolding source_file_of
source_is fonts bytes last noted e w = ap (λ (r : Reading). source_by r (walked_pages fonts bytes)) e ∙ ap (λ (s : Source). source_by (Ok last) s.pages) w

pub copying_done : (fonts : SetValue) (bytes : List ℕ) (o new : OpenFile) (copied : KeptCopies) (copies : Copies) → IsCopying fonts bytes o copied → ((file : File) → Sees fonts o file → Finishes fonts file o.rest.now new)
    → copies.bytes.now ≡ bytes → copies.mag ≡ new.mag → copies.bodies.items ≡ copied.bodies → copies.pages.items ≡ copied.pages
    → (source : SourceFile) × (source_file_of fonts bytes ≡ Ok source) × Holds fonts copies source
copying_done fonts bytes o new copied copies k turns file mag bodies pages =
    let t = turns k.file k.reading.sees in
    let noted = k.walks ∙ ap (walking fonts copy_step k.file k.noted 0) t.begins.is ∙ walk_ended fonts copy_step k.file t.last k.noted t.code t.later t.begins.long t.ends in
    let post = (ends_same fonts k.file t.last (drop (operand_size t.code t.later) t.later) k.file.phase (operation t.code (take (operand_size t.code t.later) t.later)) t.ends).2 in
    let short = k.posted post in
    let small = t.small in (
      record { mag = t.last.mag; pages = k.noted.pages },
      source_is fonts bytes t.last k.noted (reads_out fonts bytes o new k.file t k.reading) noted,
      record {
        mag = t.mag ∙ sym mag;
        pages = rw (file, bodies, pages) (all_held fonts bytes copied.bodies copied.pages k.noted.pages (omega (arith, short, small)) k.copies.ended);
      },
    )

-- the file has a fault
source_fault : (fonts : SetValue) (bytes : List ℕ) (fault : Fault) → read fonts bytes ≡ Err fault → source_file_of fonts bytes ≡ Err fault
unfolding source_file_of
source_fault fonts bytes fault e = rw e refl

pub copying_fault : (fonts : SetValue) (bytes : List ℕ) (o new : OpenFile) (copied : KeptCopies) (error : DviError) → IsCopying fonts bytes o copied → ((file : File) → Sees fonts o file → Turns fonts file o.rest.now (Err error) new)
    → IfSome (fault_of error) (λ (fault : Fault). source_file_of fonts bytes ≡ Err fault)
copying_fault fonts bytes o new copied error k turns =
    if_some (fault_of error) (λ fault e. source_fault fonts bytes fault e) (reads_fault fonts bytes o new k.file error k.reading (turns k.file k.reading.sees))
