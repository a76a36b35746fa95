-- What the reader keeps of a file after an operation.
use Rattle.std.proofs.Common.{◌≡◌, ℕ, ◌+◌, ◌<◌, ◌≤◌, List, [], ◌∷◌, ◌++◌, length, refl, sym, ◌∙◌, ap, subst, arith, append_assoc, length-append, inl, inr}
use Rattle.std.specs.Prelude.{ℤ, pos, ◌^◌, max, Option, Some, None, Ok, Err, Result, Bool, true, false, IfSome, nat_le, nat_lt, ◌⊎◌, ◌==◌, ◌&&◌, if◌then◌else◌}
use Rattle.std.specs.List.{list_all}
use Rattle.std.specs.Ordering.{int_eq}
use Rattle.std.proofs.lemmas.Bool.Decides.{nat_tests}
use Rattle.std.proofs.lemmas.List.{append-nil, map-append}
use Rattle.mt_family.specs.SetValue.{SetValue, number_named}
use Rattle.mt_box.specs.declared.place.Place.{Place}
use Rattle.mt_dvi.proofs.PageLemmas.{same_int}
use Rattle.mt_dvi.specs.Codes as codes
use Rattle.mt_dvi.specs.File as files
use Rattle.mt_dvi.specs.File.{Continuation, Continues, Ends, Fails, effect_step, place_step}
use Rattle.mt_dvi.specs.Limits.{max_places}
use Rattle.mt_dvi.specs.Machine as machine
use Rattle.mt_dvi.specs.Machine.{Machine, Effects, WrittenPlace, at_bop, is_outside}
use Rattle.mt_dviread.specs.declared.error.Cause.{Cause}
use Rattle.mt_dviread.specs.declared.deed.Deed.{Deed}
use Rattle.mt_dviread.specs.declared.deed.Deed.TheVariants.{Passes, BeginsPage, EndsPage, Selects, Performs}
use Rattle.mt_dviread.specs.declared.definitions.Definitions.{Definitions}
use Rattle.mt_dviread.specs.declared.file.Phase.{Phase}
use Rattle.mt_dviread.specs.declared.file.Phase.TheVariants as phases
use Rattle.mt_dviread.specs.declared.operation.Postamble.{Postamble}
use Rattle.mt_dviread.specs.declared.operation.Definition.{Definition}
use Rattle.mt_dviread.specs.declared.operation.Operation.{Operation}
use Rattle.mt_dviread.specs.declared.operation.Operation.TheVariants as operations
use Rattle.mt_dviread.specs.declared.file.OpenFile.{OpenFile}
use Rattle.mt_dviread.specs.Errors.{cause_of}
use Rattle.mt_dviread.specs.inner.Operations.{IsOperation, IsPostamble}
use Rattle.mt_dviread.specs.inner.Defined.{Defines, Knows}
use Rattle.mt_dviread.specs.inner.Performs.{Seen, seen, place_of}
use Rattle.mt_dviread.specs.inner.Follows.{Advances, Counts, EndsFile, Fills, Follows, Goes}
use Rattle.mt_dviread.specs.Deeds.{Changes, deed_in_page, places_of_page}
use Rattle.mt_dviread.specs.Sees.{Sees, phase_of}

-- what holds of a cause, one way and another
pub for_cause : {A : Type 0} {P Q : A → Type 0} (o : Option A) → ((x : A) → P x → Q x) → IfSome o P → IfSome o Q
for_cause None f h = h
for_cause (Some x) f h = f x h

-- nothing of the pages is changed
unchanged : (file next : files.File) → next.pages ≡ file.pages → next.page ≡ file.page → next.place_count ≡ file.place_count → (next.phase ≡ files.InPage → file.phase ≡ files.InPage) → (next.phase ≡ files.AfterPost → (next.post_at ≡ file.at) ⊎ ((file.phase ≡ files.AfterPost) × (next.post_at ≡ file.post_at))) → Changes Passes file next
unchanged file next pages page count phase posted = record { pages = pages; places = ap (λ (p : files.Page). places_of_page p) page; count = count; begun = λ e. inr (phase e); posted = posted }

-- pre
pub begun : (fonts : SetValue) (o : OpenFile) (mag : ℤ) (file : files.File) (p : codes.Preamble) → Sees fonts o file → file.again ≡ [] → p.mag ≡ mag → files.is_preamble p ≡ true
    → Goes fonts Passes file (Ok tt) (record o { phase = phases.BetweenPages; mag = mag }) (files.before_pre_step file (codes.Pre p))
begun fonts o mag file p s none same is = record {
  next = record file { phase = files.BetweenPages; mag = p.mag; comment = p.comment };
  continues = rw is refl;
  sees = record {
    at = s.at;
    phase = refl;
    mag = same;
    known = s.known;
    again = inr none;
    pages = s.pages;
    machine = s.machine;
    last = s.last;
    deepest = s.deepest;
    place_count = s.place_count;
    post_at = s.post_at;
    few = s.few;
  };
  changes = unchanged file (record file { phase = files.BetweenPages; mag = p.mag; comment = p.comment }) refl refl refl (λ e. absurd (cc)) (λ e. absurd (cc));
}

-- bop
pub page_begun : (fonts : SetValue) (o : OpenFile) (m : Machine) (last : ℤ) (file : files.File) (counts : List ℕ) (before : ℤ) → Sees fonts o file → file.again ≡ [] → before ≡ file.last
    → m ≡ at_bop → pos o.at ≡ last
    → Goes fonts BeginsPage file (Ok tt) (record o { phase = phases.InPage; machine = m; last = last }) (files.bop_step file counts before)
page_begun fonts o m last file counts before s none same is l = record {
  next = record file { phase = files.InPage; page = files.empty_page counts; machine = at_bop; last = pos file.at };
  continues = rw (same, same_int file.last) refl;
  sees = record {
    at = s.at;
    phase = refl;
    mag = s.mag;
    known = s.known;
    again = inr none;
    pages = s.pages;
    machine = sym is;
    last = ap pos s.at ∙ l;
    deepest = s.deepest;
    place_count = s.place_count;
    post_at = s.post_at;
    few = s.few;
  };
  changes = record { pages = refl; places = refl; count = refl; begun = λ e. inl refl; posted = λ e. absurd (cc) };
}

-- eop
pub page_ended : (fonts : SetValue) (o : OpenFile) (m : Machine) (count : ℕ) (file : files.File) → Sees fonts o file → file.again ≡ [] → length file.machine.saved ≡ 0
    → m ≡ at_bop → count ≡ o.page_count + 1
    → Goes fonts EndsPage file (Ok tt) (record o { phase = phases.BetweenPages; machine = m; page_count = count }) (files.eop_step file)
page_ended fonts o m count file s none empty is more =
    let e : (length file.machine.saved == 0) ≡ true = grind (arith, nat_tests) in
    let p = s.pages in
    let l = length-append file.pages (file.page ∷ []) in
    record {
      next = record file { phase = files.BetweenPages; pages = file.pages ++ file.page ∷ []; page = files.empty_page []; machine = at_bop };
      continues = rw e refl;
      sees = record {
        at = s.at;
        phase = refl;
        mag = s.mag;
        known = s.known;
        again = inr none;
        pages = omega (arith, p, l, more);
        machine = sym is;
        last = s.last;
        deepest = s.deepest;
        place_count = s.place_count;
        post_at = s.post_at;
        few = s.few;
      };
      changes = record { pages = refl; places = refl; count = refl; begun = λ e. absurd (cc); posted = λ e. absurd (cc) };
    }

-- post
pub pages_ended : (fonts : SetValue) (o : OpenFile) (file : files.File) (p : codes.Postamble) → Sees fonts o file → files.is_postamble file p ≡ true
    → Goes fonts Passes file (Ok tt) (record o { phase = phases.AfterPost; post_at = o.at }) (files.between_pages_step file (codes.Post p))
pages_ended fonts o file p s is = record {
  next = record file { phase = files.AfterPost; post = p; post_at = file.at };
  continues = rw is refl;
  sees = record {
    at = s.at;
    phase = refl;
    mag = s.mag;
    known = s.known;
    again = inl refl;
    pages = s.pages;
    machine = s.machine;
    last = s.last;
    deepest = s.deepest;
    place_count = s.place_count;
    post_at = s.at;
    few = s.few;
  };
  changes = unchanged file (record file { phase = files.AfterPost; post = p; post_at = file.at }) refl refl refl (λ e. absurd (cc)) (λ e. inl refl);
}

-- fnt_def before post
pub defines : (fonts : SetValue) (o : OpenFile) (new : Definitions) (result : Result Unit Cause) (file : files.File) (d : codes.Definition) → Sees fonts o file → file.again ≡ [] → Defines fonts result new (file.fonts ++ file.again) d
    → Goes fonts Passes file result (record o { definitions = new }) (files.define_step file d)
defines fonts o new (Ok done) file d s none h =
    let again : (file.fonts ++ file.again) ++ d ∷ [] ≡ (file.fonts ++ d ∷ []) ++ file.again =
    ap (λ (l : List codes.Definition). (file.fonts ++ l) ++ d ∷ []) none ∙ ap (λ (l : List codes.Definition). l ++ d ∷ []) (append-nil file.fonts) ∙ sym (append-nil (file.fonts ++ d ∷ [])) ∙ ap (λ (l : List codes.Definition). (file.fonts ++ d ∷ []) ++ l) (sym none) in record {
      next = record file { fonts = file.fonts ++ d ∷ [] };
      continues = rw h.0 refl;
      sees = record {
        at = s.at;
        phase = s.phase;
        mag = s.mag;
        known = subst (Knows fonts new) again h.1;
        again = inr none;
        pages = s.pages;
        machine = s.machine;
        last = s.last;
        deepest = s.deepest;
        place_count = s.place_count;
        post_at = s.post_at;
        few = s.few;
      };
      changes = unchanged file (record file { fonts = file.fonts ++ d ∷ [] }) refl refl refl (λ e. e) (λ e. inr (e, refl));
    }
defines fonts o new (Err cause) file d s none h =
    for_cause (cause_of cause) (λ c e. rw (e.1, e.0) refl) h

-- fnt_def after post
pub defines_again : (fonts : SetValue) (o : OpenFile) (new : Definitions) (result : Result Unit Cause) (file : files.File) (d : codes.Definition) → Sees fonts o file → o.phase ≡ phases.AfterPost → Defines fonts result new (file.fonts ++ file.again) d
    → Goes fonts Passes file result (record o { definitions = new }) (files.define_again_step file d)
defines_again fonts o new (Ok done) file d s post h = record {
  next = record file { again = file.again ++ d ∷ [] };
  continues = rw h.0 refl;
  sees = record {
    at = s.at;
    phase = s.phase;
    mag = s.mag;
    known = subst (Knows fonts new) (append_assoc file.fonts file.again (d ∷ [])) h.1;
    again = inl post;
    pages = s.pages;
    machine = s.machine;
    last = s.last;
    deepest = s.deepest;
    place_count = s.place_count;
    post_at = s.post_at;
    few = s.few;
  };
  changes = unchanged file (record file { again = file.again ++ d ∷ [] }) refl refl refl (λ e. e) (λ e. inr (e, refl));
}
defines_again fonts o new (Err cause) file d s post h =
    for_cause (cause_of cause) (λ c e. rw (e.1, e.0) refl) h

-- nop outside of pages, after which all is as it was
pub goes_by : (fonts : SetValue) (o : OpenFile) (file : files.File) → Sees fonts o file → Advances fonts Passes file o (Continues file)
goes_by fonts o file s = record { next = file; continues = refl; sees = s; changes = unchanged file file refl refl refl (λ e. e) (λ e. inr (e, refl)) }

-- an operation of a page that is refused
effect_fails_by : (file : files.File) (effect : machine.Effect) (c : machine.Cause) (b : Bool) → is_outside effect.machine ≡ b → seen (Ok effect) ≡ Err c → effect_step file (Ok effect) ≡ Fails c
effect_fails_by file effect c true e h = let h2 = rw e at h in rw e (cc)
effect_fails_by file effect c false e h = let h2 = rw e at h in absurd (cc)

pub effect_fails : (file : files.File) (effects : Effects) (c : machine.Cause) → seen effects ≡ Err c → effect_step file effects ≡ Fails c
effect_fails file (Err cause) c e = cc
effect_fails file (Ok effect) c e = effect_fails_by file effect c (is_outside effect.machine) refl e

-- the result of an operation whose place has been counted
abbrev pub counted : Option Place → Result Unit Cause → Result (Option Place) Cause
counted place (Ok done) = Ok place
counted place (Err cause) = Err cause

-- an operation of a page whose place is counted
place_goes : (fonts : SetValue) (o new : OpenFile) (m : Machine) (deepest : ℕ) (result : Result Unit Cause) (file : files.File) (written : Option WrittenPlace) → Sees fonts o file → file.again ≡ [] → deepest ≡ max o.deepest (length m.saved)
    → Counts result (record o { machine = m; deepest = deepest }) new (place_of written) → Fills fonts file (counted (place_of written) result) new (place_step file m written)
place_goes fonts o new m deepest (Ok done) file None s none deep h =
    let next : files.File = record file { machine = m; deepest = max file.deepest (length m.saved) } in
    record {
      next = next;
      continues = refl;
      sees = subst (λ (x : OpenFile). Sees fonts x next) (sym h.1) (record {
        at = s.at;
        phase = s.phase;
        mag = s.mag;
        known = s.known;
        again = inr none;
        pages = s.pages;
        machine = refl;
        last = s.last;
        deepest = ap (λ (n : ℕ). max n (length m.saved)) s.deepest ∙ sym deep;
        place_count = s.place_count;
        post_at = s.post_at;
        few = s.few;
      });
      changes = record { pages = refl; places = refl; count = refl; begun = λ e. inr e; posted = λ e. inr (e, refl) };
    }
place_goes fonts o new m deepest (Ok done) file (Some written) s none deep h =
    let e : nat_le max_places file.place_count ≡ false = ap (nat_le max_places) s.place_count ∙ h.0 in
    let next : files.File = record file { machine = m; deepest = max file.deepest (length m.saved); place_count = file.place_count + 1; page = record (file.page) { places = file.page.places ++ written ∷ [] } } in record {
      next = next;
      continues = rw e refl;
      sees = subst (λ (x : OpenFile). Sees fonts x next) (sym h.1) (record {
        at = s.at;
        phase = s.phase;
        mag = s.mag;
        known = s.known;
        again = inr none;
        pages = s.pages;
        machine = refl;
        last = s.last;
        deepest = ap (λ (n : ℕ). max n (length m.saved)) s.deepest ∙ sym deep;
        place_count = ap (λ (n : ℕ). n + 1) s.place_count;
        post_at = s.post_at;
        few = (let f = h.0 in let g : o.place_count < max_places = grind (arith, nat_tests) in omega (arith, g));
      });
      changes = record { pages = refl; places = map-append (λ (w : WrittenPlace). w.place) file.page.places (written ∷ []); count = refl; begun = λ e. inr e; posted = λ e. inr (e, refl) };
    }
place_goes fonts o new m deepest (Err cause) file None s none deep h = for_cause (cause_of cause) (λ c e. absurd (cc (e.1))) h
place_goes fonts o new m deepest (Err cause) file (Some written) s none deep h =
    for_cause (cause_of cause) (λ c e. let full : nat_le max_places file.place_count ≡ true = ap (nat_le max_places) s.place_count ∙ e.1 in rw (full, e.0) refl) h

performed_by : (fonts : SetValue) (o new : OpenFile) (m : Machine) (deepest : ℕ) (place : Option Place) (result : Result Unit Cause) (file : files.File) (effect : machine.Effect) (b : Bool) → is_outside effect.machine ≡ b → Sees fonts o file → file.again ≡ []
    → seen (Ok effect) ≡ Ok (record { machine = m; place = place }) → deepest ≡ max o.deepest (length m.saved)
    → Counts result (record o { machine = m; deepest = deepest }) new place → Fills fonts file (counted place result) new (effect_step file (Ok effect))
performed_by fonts o new m deepest place result file effect true e s none h deep f = let h2 = rw e at h in absurd (cc)
performed_by fonts o new m deepest place result file effect false e s none h deep f =
    let h2 = rw e at h in
    let same : record { machine = effect.machine; place = place_of effect.place } ≡ record { machine = m; place = place } = cc in
    let one : effect.machine ≡ m = ap (λ (x : Seen). x.machine) same in
    let two : place_of effect.place ≡ place = ap (λ (x : Seen). x.place) same in
    let g : Fills fonts file (counted (place_of effect.place) result) new (place_step file m effect.place) = place_goes fonts o new m deepest result file effect.place s none deep
    (subst (λ (p : Option Place). Counts result (record o { machine = m; deepest = deepest }) new p) (sym two) f) in
    rw e (subst (λ (x : Machine). Fills fonts file (counted place result) new (place_step file x effect.place)) (sym one)
    (subst (λ (p : Option Place). Fills fonts file (counted p result) new (place_step file m effect.place)) two g))

pub performed : (fonts : SetValue) (o new : OpenFile) (m : Machine) (deepest : ℕ) (place : Option Place) (result : Result Unit Cause) (file : files.File) (effects : Effects) → Sees fonts o file → file.again ≡ []
    → seen effects ≡ Ok (record { machine = m; place = place }) → deepest ≡ max o.deepest (length m.saved)
    → Counts result (record o { machine = m; deepest = deepest }) new place → Fills fonts file (counted place result) new (effect_step file effects)
performed fonts o new m deepest place result file (Err cause) s none h deep f = absurd (cc)
performed fonts o new m deepest place result file (Ok effect) s none h deep f =
    performed_by fonts o new m deepest place result file effect (is_outside effect.machine) refl s none h deep f

-- a selection fills no place
selects_nothing : (file next : files.File) (m : Machine) → effect_step file (machine.without_place m) ≡ Continues next → Changes Selects file next
selects_nothing file next m is = outside (is_outside m) is where
  outside : (b : Bool) → (if b then Fails machine.OutOfRange else place_step file m None) ≡ Continues next → Changes Selects file next
  outside true e = absurd (cc)
  outside false e =
      let n : record file { machine = m; deepest = max file.deepest (length m.saved) } ≡ next = cc in
      record {
        pages = sym (ap (λ (f : files.File). f.pages) n);
        places = sym (ap (λ (f : files.File). places_of_page f.page) n);
        count = sym (ap (λ (f : files.File). f.place_count) n);
        begun = λ e. inr (ap (λ (f : files.File). f.phase) n ∙ e);
        posted = λ e. inr (ap (λ (f : files.File). f.phase) n ∙ e, sym (ap (λ (f : files.File). f.post_at) n));
      }

pub selects : (fonts : SetValue) (file next : files.File) (d : Option codes.Definition) → effect_step file (machine.select_effect fonts file.machine d) ≡ Continues next → Changes Selects file next
selects fonts file next None is = absurd (cc)
selects fonts file next (Some d) is = by_area d.area is where
  by_number : (r : Option ℕ) → effect_step file (machine.select_font file.machine r) ≡ Continues next → Changes Selects file next
  by_number None is = absurd (cc)
  by_number (Some n) is = selects_nothing file next (record (file.machine) { font = Some n }) is

  by_area : (area : List ℕ) → effect_step file (machine.select_without_area fonts file.machine area d) ≡ Continues next → Changes Selects file next
  by_area [] is = by_number (number_named fonts d.name (pos d.size)) is
  by_area (byte ∷ area) is = absurd (cc)

pub selection_goes : (fonts : SetValue) (place : Option Place) (file : files.File) (new : OpenFile) (d : Option codes.Definition) → Advances fonts (Performs place) file new (effect_step file (machine.select_effect fonts file.machine d))
    → Advances fonts Selects file new (effect_step file (machine.select_effect fonts file.machine d))
selection_goes fonts place file new d a = record { next = a.next; continues = a.continues; sees = a.sees; changes = selects fonts file a.next d a.continues }

-- what holds before post
pub early : {A B : Type 0} → A ⊎ B → (A → ⊥) → B
early (inl a) f = absurd (f a)
early (inr b) f = b

-- an operation that the page performs
pub in_page_other : (fonts : SetValue) (file : files.File) (operation : Operation) (meant : codes.Operation) → (operation ≡ operations.Eop → ⊥) → ((d : Definition) → operation ≡ operations.Define d → ⊥) → (operation ≡ operations.Special → ⊥) → IsOperation operation meant
    → files.in_page_step fonts file meant ≡ effect_step file (machine.perform fonts file.fonts file.machine meant)
in_page_other fonts file (operations.Char put code) meant eop define special is = rw is refl
in_page_other fonts file (operations.Rule put height width) meant eop define special is = rw is refl
in_page_other fonts file operations.Nop meant eop define special is = rw is refl
in_page_other fonts file (operations.Bop before) meant eop define special is = rw is.1 refl
in_page_other fonts file operations.Eop meant eop define special is = absurd (eop refl)
in_page_other fonts file operations.Push meant eop define special is = rw is refl
in_page_other fonts file operations.Pop meant eop define special is = rw is refl
in_page_other fonts file (operations.Right by) meant eop define special is = rw is refl
in_page_other fonts file (operations.Down by) meant eop define special is = rw is refl
in_page_other fonts file (operations.Set register by) meant eop define special is = rw is refl
in_page_other fonts file (operations.Add register) meant eop define special is = rw is refl
in_page_other fonts file (operations.Select number) meant eop define special is = rw is refl
in_page_other fonts file operations.Special meant eop define special is = absurd (special refl)
in_page_other fonts file (operations.Define d) meant eop define special is = absurd (define d refl)
in_page_other fonts file (operations.Pre p) meant eop define special is = rw is.2 refl
in_page_other fonts file (operations.Post p) meant eop define special is = rw is.2 refl
in_page_other fonts file (operations.PostPost post version) meant eop define special is = rw is refl
in_page_other fonts file operations.Undefined meant eop define special is = rw is refl

-- the deed of an operation that is none of these
pub other_deed : (operation : Operation) (meant : codes.Operation) (place : Option Place) → (operation ≡ operations.Eop → ⊥) → ((d : Definition) → operation ≡ operations.Define d → ⊥) → ((n : ℕ) → operation ≡ operations.Select n → ⊥) → IsOperation operation meant
    → Performs place ≡ deed_in_page meant place
other_deed (operations.Char put code) meant place eop define select is = rw is refl
other_deed (operations.Rule put height width) meant place eop define select is = rw is refl
other_deed operations.Nop meant place eop define select is = rw is refl
other_deed (operations.Bop before) meant place eop define select is = rw is.1 refl
other_deed operations.Eop meant place eop define select is = absurd (eop refl)
other_deed operations.Push meant place eop define select is = rw is refl
other_deed operations.Pop meant place eop define select is = rw is refl
other_deed (operations.Right by) meant place eop define select is = rw is refl
other_deed (operations.Down by) meant place eop define select is = rw is refl
other_deed (operations.Set register by) meant place eop define select is = rw is refl
other_deed (operations.Add register) meant place eop define select is = rw is refl
other_deed (operations.Select number) meant place eop define select is = absurd (select number refl)
other_deed operations.Special meant place eop define select is = rw is.1 refl
other_deed (operations.Define d) meant place eop define select is = absurd (define d refl)
other_deed (operations.Pre p) meant place eop define select is = rw is.2 refl
other_deed (operations.Post p) meant place eop define select is = rw is.2 refl
other_deed (operations.PostPost post version) meant place eop define select is = rw is refl
other_deed operations.Undefined meant place eop define select is = rw is refl

-- a special
pub special_goes : (fonts : SetValue) (o : OpenFile) (file : files.File) (bytes : List ℕ) → Sees fonts o file → Advances fonts (Performs None) file o (files.special_step file bytes)
special_goes fonts o file bytes s = record {
  next = record file { page = record (file.page) { specials = file.page.specials ++ files.special_at file.machine file.page bytes ∷ [] } };
  continues = refl;
  sees = record {
    at = s.at;
    phase = s.phase;
    mag = s.mag;
    known = s.known;
    again = s.again;
    pages = s.pages;
    machine = s.machine;
    last = s.last;
    deepest = s.deepest;
    place_count = s.place_count;
    post_at = s.post_at;
    few = s.few;
  };
  changes = record { pages = refl; places = refl; count = refl; begun = λ e. inr e; posted = λ e. inr (e, refl) };
}

-- a step of the phase that the reader is in
pub steps : (fonts : SetValue) (o new : OpenFile) (p : Phase) (result : Result (Option Deed) Cause) (file : files.File) (meant : codes.Operation) (after : List ℕ) → Sees fonts o file → o.phase ≡ p
    → Follows fonts (phase_of p) file meant result new (files.phase_step (phase_of p) fonts file meant after) → Follows fonts file.phase file meant result new (files.file_step fonts file meant after)
steps fonts o new p result file meant after s e h =
    subst (λ (x : files.Phase). Follows fonts x file meant result new (files.phase_step x fonts file meant after)) (sym (s.phase ∙ ap phase_of e)) h

-- post_post
pub file_ends : (fonts : SetValue) (o : OpenFile) (file : files.File) (post version : ℕ) (after : List ℕ) → Sees fonts o file → 4 ≤ length after → post < 2 ^ 32 → post ≡ o.post_at → version ≡ 2 → list_all (λ (b : ℕ). b == 223) after ≡ true
    → EndsFile file (Ok tt) o (files.post_post_step file post version after)
file_ends fonts o file post version after s long small same two padding =
    let a : nat_lt (length after) 4 ≡ false = grind (arith, nat_tests) in
    let there = s.post_at in
    let b : (post == file.post_at) ≡ true = grind (arith, nat_tests) in
    let c : (version == 2) ≡ true = grind (arith, nat_tests) in
    record {
      last = record file { tail = length after };
      ends = rw (a, b, c, padding) refl;
      pages = refl;
      mag = s.mag;
      small = omega (arith, small, same, there);
    }

-- what post says
and_six : (a n d m x p : Bool) → ((a && (n && d)) && (m && (x && p))) ≡ (a && n && d && m && x && p)
and_six false n d m x p = refl
and_six true false d m x p = refl
and_six true true false m x p = refl
and_six true true true false x p = refl
and_six true true true true x p = refl

pub postamble_is : (fonts : SetValue) (o : OpenFile) (file : files.File) (p : Postamble) (meant : codes.Postamble) → Sees fonts o file → IsPostamble p meant
    → files.is_postamble file meant ≡ ((int_eq p.last o.last && ((p.num == 25400000) && (p.den == 473628672))) && (int_eq p.mag o.mag && (nat_le o.deepest p.depth && (p.pages == o.page_count))))
postamble_is fonts o file p meant s is =
    rw (is.last, is.num, is.den, is.mag, is.depth, is.pages, s.last, s.mag, s.deepest, s.pages) (sym (and_six (int_eq p.last o.last) (p.num == 25400000) (p.den == 473628672) (int_eq p.mag o.mag) (nat_le o.deepest p.depth) (p.pages == o.page_count)))

pub postamble_by : (fonts : SetValue) (o : OpenFile) (file : files.File) (p : Postamble) (meant : codes.Postamble) → Sees fonts o file → IsPostamble p meant → (a b : Bool)
    → a ≡ (int_eq p.last o.last && ((p.num == 25400000) && (p.den == 473628672))) → b ≡ (int_eq p.mag o.mag && (nat_le o.deepest p.depth && (p.pages == o.page_count))) → files.is_postamble file meant ≡ (a && b)
postamble_by fonts o file p meant s is a b e f = postamble_is fonts o file p meant s is ∙ rw (e, f) refl

pub postamble_not : (fonts : SetValue) (o : OpenFile) (file : files.File) (p : Postamble) (meant : codes.Postamble) → Sees fonts o file → IsPostamble p meant → (a : Bool)
    → a ≡ (int_eq p.last o.last && ((p.num == 25400000) && (p.den == 473628672))) → a ≡ false → files.is_postamble file meant ≡ false
postamble_not fonts o file p meant s is a e wrong =
    postamble_by fonts o file p meant s is a (int_eq p.mag o.mag && (nat_le o.deepest p.depth && (p.pages == o.page_count))) e refl
    ∙ ap (λ (x : Bool). x && (int_eq p.mag o.mag && (nat_le o.deepest p.depth && (p.pages == o.page_count)))) wrong
