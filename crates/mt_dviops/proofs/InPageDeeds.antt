-- What a deed says of the operation that does it (`where_is`), where the places of pages lie (`in_page_did`), and which
-- fonts are selected (`selected_low`).
use Rattle.std.proofs.Common.{◌≡◌, ℕ, ◌+◌, ◌<◌, ◌≤◌, List, [], ◌∷◌, ◌++◌, length, refl, sym, ◌∙◌, ap, subst, arith, length-append}
use Rattle.std.specs.Prelude.{ℤ, pos, Bool, true, false, Option, Some, None, Ok, Err, IfSome, IsTrue, cond, nat_le, nat_lt, max, ◌&&◌, ◌==◌, if◌then◌else◌, ⊤}
use Rattle.std.specs.List.{position, position_or_len, zip}
use Rattle.std.proofs.lemmas.Bool.Decides.{nat_tests}
use Rattle.std.proofs.lemmas.List.{map-append}
use Rattle.mt_tfm.specs.Font.{Metrics, exists, width_of}
use Rattle.mt_family.specs.declared.list.FontLine.{FontLine}
use Rattle.mt_family.specs.SetValue.{IsSet, SetValue, has_name_and_size, number_named}
use Rattle.mt_box.specs.declared.place.Place.{Place}
use Rattle.mt_box.specs.declared.place.Place.TheVariants as places
use Rattle.mt_dvi.specs.Limits.{max_places, max_pushes}
use Rattle.mt_dvi.specs.Codes.{Definition, Operation, Char, Rule, Nop, Bop, Eop, Push, Pop, Right, Down, Set, Add, Select, Special, Define, Pre, Post, PostPost, Undefined}
use Rattle.mt_dvi.specs.Fonts.{first_definition, metrics_at}
use Rattle.mt_dvi.specs.Machine.{Machine, Registers, Effects, MissingChar, OutOfRange, TooDeep, TooMany, WrittenPlace, after_place, glyph_effect, glyph_of_font, at_bop, BadOpcode, is_outside, is_positive, perform, pop_effect, push_effect, rule_effect, select_effect, select_font, select_without_area, without_place}
use Rattle.mt_dvi.specs.File.{File, Phase, BeforePre, BetweenPages, InPage, AfterPost, Continues, Fails, effect_step, empty_page, in_page_step, phase_step, place_step, special_at}
use Rattle.mt_dviread.specs.declared.deed.Deed.{Deed}
use Rattle.mt_dviread.specs.declared.deed.Deed.TheVariants as deeds
use Rattle.mt_dviread.specs.Deeds.{IsDeed, deed_in_page, deed_of, place_filled, places_of_page}
use Rattle.mt_dviops.specs.inner.Placed.{HasChar, IsPlaced}
use Rattle.mt_dviops.proofs.CopyLemmas.{continues_same, effect_kept}

-- which operation does a deed, and in which part of the file
abbrev pub Where : Deed → Phase → Operation → Type 0
Where deeds.Passes phase op = ⊤
Where deeds.BeginsPage phase op = (counts : List ℕ) × (before : ℤ) × (op ≡ Bop counts before)
Where deeds.EndsPage phase op = (phase ≡ InPage) × (op ≡ Eop)
Where deeds.Selects phase op = (phase ≡ InPage) × ((number : ℕ) × (op ≡ Select number))
Where (deeds.Performs place) phase op = phase ≡ InPage

where_of : (phase : Phase) (op : Operation) (place : Option Place) → Where (deed_of phase op place) phase op
where_of BeforePre op place = tt
where_of AfterPost op place = tt
where_of BetweenPages (Char put c) place = tt
where_of BetweenPages (Rule put height width) place = tt
where_of BetweenPages Nop place = tt
where_of BetweenPages (Bop counts before) place = (counts, before, refl)
where_of BetweenPages Eop place = tt
where_of BetweenPages Push place = tt
where_of BetweenPages Pop place = tt
where_of BetweenPages (Right by) place = tt
where_of BetweenPages (Down by) place = tt
where_of BetweenPages (Set register by) place = tt
where_of BetweenPages (Add register) place = tt
where_of BetweenPages (Select number) place = tt
where_of BetweenPages (Special bytes) place = tt
where_of BetweenPages (Define d) place = tt
where_of BetweenPages (Pre p) place = tt
where_of BetweenPages (Post p) place = tt
where_of BetweenPages (PostPost post version) place = tt
where_of BetweenPages Undefined place = tt
where_of InPage (Char put c) place = refl
where_of InPage (Rule put height width) place = refl
where_of InPage Nop place = refl
where_of InPage (Bop counts before) place = refl
where_of InPage Eop place = (refl, refl)
where_of InPage Push place = refl
where_of InPage Pop place = refl
where_of InPage (Right by) place = refl
where_of InPage (Down by) place = refl
where_of InPage (Set register by) place = refl
where_of InPage (Add register) place = refl
where_of InPage (Select number) place = (refl, (number, refl))
where_of InPage (Special bytes) place = refl
where_of InPage (Define d) place = tt
where_of InPage (Pre p) place = refl
where_of InPage (Post p) place = refl
where_of InPage (PostPost post version) place = refl
where_of InPage Undefined place = refl

pub where_is : (deed : Deed) (phase : Phase) (op : Operation) → IsDeed deed phase op → Where deed phase op
where_is deed phase op is = subst (λ (d : Deed). Where d phase op) (sym is) (where_of phase op (place_filled deed))

-- the place of an effect
abbrev EffectIsPlaced : SetValue → Effects → Type 0
EffectIsPlaced fonts (Err cause) = ⊤
EffectIsPlaced fonts (Ok effect) = IfSome effect.place (λ (w : WrittenPlace). IsPlaced fonts w.place)

glyph_placed : (fonts : SetValue) (m : Machine) (put : Bool) (code : ℕ) (font : Option ℕ) → EffectIsPlaced fonts (glyph_effect fonts m put code font)
glyph_placed fonts m put code None = tt
glyph_placed fonts m put code (Some n) = by_metrics (metrics_at fonts n) refl where
  by_test : (metrics : Metrics) → metrics_at fonts n ≡ Some metrics → (b : Bool) → exists metrics code ≡ b
      → EffectIsPlaced fonts (if b then Ok (record { machine = after_place put m (width_of metrics code); place = Some (record { place = places.Glyph n code m.now.h m.now.v; put = put }) }) else Err MissingChar)
  by_test metrics e true t = has where
    has : HasChar fonts n code
    has other is = let same : metrics ≡ other = cc in subst (λ (x : Metrics). IsTrue (exists x code)) same t
  by_test metrics e false t = tt

  by_metrics : (r : Option Metrics) → metrics_at fonts n ≡ r → EffectIsPlaced fonts (glyph_of_font m put code n r)
  by_metrics None e = tt
  by_metrics (Some metrics) e = by_test metrics e (exists metrics code) refl

rule_placed : (fonts : SetValue) (m : Machine) (put : Bool) (height width : ℤ) → EffectIsPlaced fonts (rule_effect m put height width)
rule_placed fonts m put height width = by_test (is_positive height && is_positive width) where
  by_test : (b : Bool) → IfSome (if b then Some (record { place = places.Rule m.now.h m.now.v height width; put = put }) else None) (λ (w : WrittenPlace). IsPlaced fonts w.place)
  by_test true = tt
  by_test false = tt

push_placed : (fonts : SetValue) (m : Machine) → EffectIsPlaced fonts (push_effect m)
push_placed fonts m = by_test (nat_le max_pushes (length m.saved)) where
  by_test : (b : Bool) → EffectIsPlaced fonts (if b then Err TooDeep else without_place (record m { saved = m.now ∷ m.saved }))
  by_test true = tt
  by_test false = tt

pop_placed : (fonts : SetValue) (m : Machine) (saved : List Registers) → EffectIsPlaced fonts (pop_effect m saved)
pop_placed fonts m [] = tt
pop_placed fonts m (before ∷ saved) = tt

font_placed : (fonts : SetValue) (m : Machine) (font : Option ℕ) → EffectIsPlaced fonts (select_font m font)
font_placed fonts m None = tt
font_placed fonts m (Some n) = tt

area_placed : (fonts : SetValue) (m : Machine) (area : List ℕ) (d : Definition) → EffectIsPlaced fonts (select_without_area fonts m area d)
area_placed fonts m [] d = font_placed fonts m (number_named fonts d.name (pos d.size))
area_placed fonts m (byte ∷ area) d = tt

select_placed : (fonts : SetValue) (m : Machine) (d : Option Definition) → EffectIsPlaced fonts (select_effect fonts m d)
select_placed fonts m None = tt
select_placed fonts m (Some d) = area_placed fonts m d.area d

perform_placed : (fonts : SetValue) (definitions : List Definition) (m : Machine) (op : Operation) → EffectIsPlaced fonts (perform fonts definitions m op)
perform_placed fonts definitions m (Char put c) = glyph_placed fonts m put c m.font
perform_placed fonts definitions m (Rule put height width) = rule_placed fonts m put height width
perform_placed fonts definitions m Nop = tt
perform_placed fonts definitions m (Bop counts before) = tt
perform_placed fonts definitions m Eop = tt
perform_placed fonts definitions m Push = push_placed fonts m
perform_placed fonts definitions m Pop = pop_placed fonts m m.saved
perform_placed fonts definitions m (Right by) = tt
perform_placed fonts definitions m (Down by) = tt
perform_placed fonts definitions m (Set register by) = tt
perform_placed fonts definitions m (Add register) = tt
perform_placed fonts definitions m (Select number) = select_placed fonts m (first_definition definitions number)
perform_placed fonts definitions m (Special bytes) = tt
perform_placed fonts definitions m (Define d) = tt
perform_placed fonts definitions m (Pre p) = tt
perform_placed fonts definitions m (Post p) = tt
perform_placed fonts definitions m (PostPost post version) = tt
perform_placed fonts definitions m Undefined = tt

no_more : (places : List Place) (place : Place) → places ≡ places ++ place ∷ [] → ⊥
no_more places place e = let l = ap length e in let a = length-append places (place ∷ []) in absurd (omega (arith, l, a))

last_same : (places : List Place) (a b : Place) → places ++ a ∷ [] ≡ places ++ b ∷ [] → a ≡ b
last_same [] a b e = cc
last_same (p ∷ places) a b e = let rest : places ++ a ∷ [] ≡ places ++ b ∷ [] = cc in last_same places a b rest

-- a place more on the page is where a place can be
abbrev pub MoreIsPlaced : SetValue → File → File → Type 0
MoreIsPlaced fonts file next = (place : Place) → places_of_page next.page ≡ places_of_page file.page ++ place ∷ [] → IsPlaced fonts place

none_more : (fonts : SetValue) (file next : File) → places_of_page file.page ≡ places_of_page next.page → MoreIsPlaced fonts file next
none_more fonts file next same place is = absurd (no_more (places_of_page file.page) place (same ∙ is))

step_placed : (fonts : SetValue) (file next : File) (m : Machine) (written : Option WrittenPlace) → IfSome written (λ (w : WrittenPlace). IsPlaced fonts w.place) → place_step file m written ≡ Continues next → MoreIsPlaced fonts file next
step_placed fonts file next m None placed e =
    let n : record file { machine = m; deepest = max file.deepest (length m.saved) } ≡ next = continues_same _ _ e in
    none_more fonts file next (ap (λ (f : File). places_of_page f.page) n)
step_placed fonts file next m (Some w) placed e = full (nat_le max_places file.place_count) e where
  full : (b : Bool) → (if b then Fails TooMany else Continues (record file { machine = m; deepest = max file.deepest (length m.saved); place_count = file.place_count + 1; page = record (file.page) { places = file.page.places ++ w ∷ [] } })) ≡ Continues next → MoreIsPlaced fonts file next
  full true is = absurd (cc)
  full false is = λ place more.
      let n = continues_same _ _ is in
      let s : places_of_page file.page ++ w.place ∷ [] ≡ places_of_page next.page = sym (map-append (λ (x : WrittenPlace). x.place) file.page.places (w ∷ [])) ∙ ap (λ (f : File). places_of_page f.page) n in
      subst (IsPlaced fonts) (last_same (places_of_page file.page) w.place place (s ∙ more)) placed

effect_placed : (fonts : SetValue) (file next : File) (e : Effects) → EffectIsPlaced fonts e → effect_step file e ≡ Continues next → MoreIsPlaced fonts file next
effect_placed fonts file next (Err cause) placed is = absurd (cc)
effect_placed fonts file next (Ok effect) placed is = far (is_outside effect.machine) is where
  far : (b : Bool) → (if b then Fails OutOfRange else place_step file effect.machine effect.place) ≡ Continues next → MoreIsPlaced fonts file next
  far true e = absurd (cc)
  far false e = step_placed fonts file next effect.machine effect.place placed e

-- an operation in a page that neither ends it nor defines a font
pub record Did (fonts : SetValue) (file next : File) : Type 0 where
  pub phase : next.phase ≡ file.phase
  pub placed : MoreIsPlaced fonts file next

did_effect : (fonts : SetValue) (file next : File) (e : Effects) → EffectIsPlaced fonts e → effect_step file e ≡ Continues next → Did fonts file next
did_effect fonts file next e placed is = record { phase = (effect_kept file next e is).phase; placed = effect_placed fonts file next e placed is }

pub in_page_did : (fonts : SetValue) (file next : File) (op : Operation) (place : Option Place) → deeds.Performs place ≡ deed_in_page op place → in_page_step fonts file op ≡ Continues next → Did fonts file next
in_page_did fonts file next (Char put c) place is e = did_effect fonts file next (perform fonts file.fonts file.machine (Char put c)) (perform_placed fonts file.fonts file.machine (Char put c)) e
in_page_did fonts file next (Rule put height width) place is e = did_effect fonts file next (perform fonts file.fonts file.machine (Rule put height width)) (perform_placed fonts file.fonts file.machine (Rule put height width)) e
in_page_did fonts file next Nop place is e = did_effect fonts file next (perform fonts file.fonts file.machine Nop) (perform_placed fonts file.fonts file.machine Nop) e
in_page_did fonts file next (Bop counts before) place is e = did_effect fonts file next (perform fonts file.fonts file.machine (Bop counts before)) (perform_placed fonts file.fonts file.machine (Bop counts before)) e
in_page_did fonts file next Eop place is e = absurd (cc)
in_page_did fonts file next Push place is e = did_effect fonts file next (perform fonts file.fonts file.machine Push) (perform_placed fonts file.fonts file.machine Push) e
in_page_did fonts file next Pop place is e = did_effect fonts file next (perform fonts file.fonts file.machine Pop) (perform_placed fonts file.fonts file.machine Pop) e
in_page_did fonts file next (Right by) place is e = did_effect fonts file next (perform fonts file.fonts file.machine (Right by)) (perform_placed fonts file.fonts file.machine (Right by)) e
in_page_did fonts file next (Down by) place is e = did_effect fonts file next (perform fonts file.fonts file.machine (Down by)) (perform_placed fonts file.fonts file.machine (Down by)) e
in_page_did fonts file next (Set register by) place is e = did_effect fonts file next (perform fonts file.fonts file.machine (Set register by)) (perform_placed fonts file.fonts file.machine (Set register by)) e
in_page_did fonts file next (Add register) place is e = did_effect fonts file next (perform fonts file.fonts file.machine (Add register)) (perform_placed fonts file.fonts file.machine (Add register)) e
in_page_did fonts file next (Select number) place is e = absurd (cc)
in_page_did fonts file next (Special bytes) place is e =
    let n : record file { page = record (file.page) { specials = file.page.specials ++ special_at file.machine file.page bytes ∷ [] } } ≡ next = continues_same _ _ e in
    record { phase = ap (λ (f : File). f.phase) (sym n); placed = none_more fonts file next (ap (λ (f : File). places_of_page f.page) n) }
in_page_did fonts file next (Define d) place is e = absurd (cc)
in_page_did fonts file next (Pre p) place is e = did_effect fonts file next (perform fonts file.fonts file.machine (Pre p)) (perform_placed fonts file.fonts file.machine (Pre p)) e
in_page_did fonts file next (Post p) place is e = did_effect fonts file next (perform fonts file.fonts file.machine (Post p)) (perform_placed fonts file.fonts file.machine (Post p)) e
in_page_did fonts file next (PostPost post version) place is e = did_effect fonts file next (perform fonts file.fonts file.machine (PostPost post version)) (perform_placed fonts file.fonts file.machine (PostPost post version)) e
in_page_did fonts file next Undefined place is e = did_effect fonts file next (perform fonts file.fonts file.machine Undefined) (perform_placed fonts file.fonts file.machine Undefined) e

pub selects_did : (fonts : SetValue) (file next : File) (number : ℕ) → in_page_step fonts file (Select number) ≡ Continues next → Did fonts file next
selects_did fonts file next number e = did_effect fonts file next (perform fonts file.fonts file.machine (Select number)) (perform_placed fonts file.fonts file.machine (Select number)) e

-- an operation in a page
pub in_page_does : (fonts : SetValue) (file next : File) (phase : Phase) (op meant : Operation) (after : List ℕ) → phase ≡ InPage → op ≡ meant → phase_step phase fonts file op after ≡ Continues next → in_page_step fonts file meant ≡ Continues next
in_page_does fonts file next phase op meant after p o e =
    sym (ap (λ (x : Phase). phase_step x fonts file op after) p ∙ ap (λ (x : Operation). in_page_step fonts file x) o) ∙ e

position_low : {X : Type 0} (p : X → Bool) (xs : List X) (n : ℕ) → position p xs ≡ Some n → n < length xs
position_low p xs n e = by_test (nat_lt (position_or_len p xs) (length xs)) refl e where
  by_test : (b : Bool) → nat_lt (position_or_len p xs) (length xs) ≡ b → cond b (Some (position_or_len p xs)) None ≡ Some n → n < length xs
  by_test true t e = let s : position_or_len p xs ≡ n = cc in let l : position_or_len p xs < length xs = grind (arith, nat_tests) in omega (arith, l, s)
  by_test false t e = absurd (cc)

zip_short : (lines : List FontLine) (fonts : List Metrics) → length (zip lines fonts) ≤ length lines
zip_short [] fonts = omega arith
zip_short (line ∷ lines) [] = omega arith
zip_short (line ∷ lines) (m ∷ fonts) = omega (arith, zip_short lines fonts)

-- the numbers of the fonts of a set
number_low : (fonts : SetValue) (name : List ℕ) (size n : ℕ) → IsSet fonts → number_named fonts name (pos size) ≡ Some n → n < 48
number_low fonts name size n set e =
    let low : n < length (zip fonts.lines fonts.fonts) = position_low (has_name_and_size name (pos size)) (zip fonts.lines fonts.fonts) n e in
    let few : length fonts.lines ≤ 48 = set.list.few in
    omega (arith, low, few, zip_short fonts.lines fonts.fonts)

machine_after : (file next : File) (m : Machine) → effect_step file (without_place m) ≡ Continues next → next.machine ≡ m
machine_after file next m is = far (is_outside m) is where
  far : (b : Bool) → (if b then Fails OutOfRange else Continues (record file { machine = m; deepest = max file.deepest (length m.saved) })) ≡ Continues next → next.machine ≡ m
  far true e = absurd (cc)
  far false e = let n = continues_same _ _ e in ap (λ (f : File). f.machine) (sym n)

effect_low : (fonts : SetValue) (file next : File) (d : Option Definition) (n : ℕ) → IsSet fonts → effect_step file (select_effect fonts file.machine d) ≡ Continues next → next.machine.font ≡ Some n → n < 48
effect_low fonts file next None n set is font = absurd (cc)
effect_low fonts file next (Some d) n set is font = by_area d.area is where
  by_number : (r : Option ℕ) → number_named fonts d.name (pos d.size) ≡ r → effect_step file (select_font file.machine r) ≡ Continues next → n < 48
  by_number None e is = absurd (cc)
  by_number (Some k) e is =
      let some : Some k ≡ Some n = sym (ap (λ (m : Machine). m.font) (machine_after file next (record (file.machine) { font = Some k }) is)) ∙ font in
      number_low fonts d.name d.size n set (e ∙ some)

  by_area : (area : List ℕ) → effect_step file (select_without_area fonts file.machine area d) ≡ Continues next → n < 48
  by_area [] is = by_number (number_named fonts d.name (pos d.size)) refl is
  by_area (byte ∷ area) is = absurd (cc)

-- a font that is selected is one of the set
pub selected_low : (fonts : SetValue) (file next : File) (number : ℕ) → IsSet fonts → in_page_step fonts file (Select number) ≡ Continues next → (n : ℕ) → next.machine.font ≡ Some n → n < 48
selected_low fonts file next number set does n is = effect_low fonts file next (first_definition file.fonts number) n set does is

-- eop
pub eop_between : (fonts : SetValue) (file next : File) → in_page_step fonts file Eop ≡ Continues next → next.phase ≡ BetweenPages
eop_between fonts file next e = by_test (length file.machine.saved == 0) e where
  by_test : (b : Bool) → (if b then Continues (record file { phase = BetweenPages; pages = file.pages ++ file.page ∷ []; page = empty_page []; machine = at_bop }) else Fails BadOpcode) ≡ Continues next → next.phase ≡ BetweenPages
  by_test true is = let n = continues_same _ _ is in ap (λ (f : File). f.phase) (sym n)
  by_test false is = absurd (cc)
