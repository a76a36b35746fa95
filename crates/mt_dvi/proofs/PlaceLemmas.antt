-- A glyph or a rule is written in a page (`glyph_written`, `rule_written`).
use Rattle.std.proofs.Common.{◌≡◌, ℕ, ◌<◌, ◌≤◌, List, [], ◌∷◌, ◌++◌, refl, sym, ap, subst, arith}
use Rattle.std.specs.Prelude.{ℤ, pos, negsuc, ◌+ℤ◌, ◌<ℤ◌, nat_abs, nat_le, nat_lt, true, false, Bool, Option, Some, None, IsSomeAnd, if◌then◌else◌}
use Rattle.std.proofs.lemmas.Bool.Decides.{nat_tests}
use Rattle.std.proofs.lemmas.Int.{ints}
use Rattle.mt_scaled.specs.Number.{max_dimen}
use Rattle.mt_tfm.specs.Font.{Metrics, exists, width_of}
use Rattle.mt_dvi.specs.Limits.{max_places}
use Rattle.mt_dvi.specs.Codes.{Char, Rule}
use Rattle.mt_dvi.specs.writer.Emits.{Emits, own_code, own_size}
use Rattle.mt_dvi.specs.File.{Continues, file_step}
use Rattle.mt_dvi.specs.Lean.{is_short_char}
use Rattle.mt_dvi.specs.Fonts.{metrics_at}
use Rattle.mt_dvi.specs.writer.LeadsTo.{Reached, cursor_after, font_after, in_page, machine_at, with_definitions, with_opcodes, with_place}
use Rattle.mt_dvi.specs.writer.Stands.{Arrived, Chosen, FillsPlace, IsAt, Lowered, Stands, StandsWith, WritesPlace, is_lean}
use Rattle.mt_dvi.specs.Machine.{Machine, is_far, is_positive}
use Rattle.mt_dvi.specs.Writable.{InRange, HasGlyph, IsWritable}
use Rattle.mt_family.specs.SetValue.{SetValue}
use Rattle.mt_box.specs.Places.{h_of, v_of}
use Rattle.mt_box.specs.declared.place.Place.{Place}
use Rattle.mt_box.specs.declared.place.Place.TheVariants as places
use Rattle.mt_dvi.specs.declared.page.Cursor.{Cursor}
use Rattle.mt_dvi.proofs.Prefix.{leads_next}
use Rattle.mt_dvi.proofs.LeanLemmas.{lean_next}
use Rattle.mt_dvi.proofs.MoveLemmas.{at_page, half, near, own_opcode, same_nat, small}

below : (n : ℕ) → n < max_places → nat_le max_places n ≡ false
below n lt = grind (arith, nat_tests)

positive : (z : ℤ) → pos 0 <ℤ z → is_positive z ≡ true
positive (pos n) lt = grind (arith, nat_tests)
positive (negsuc n) lt = absurd (omega (arith, ints, lt))

sum_near : (a b : ℤ) → nat_abs a ≤ max_dimen → nat_abs b ≤ max_dimen → is_far (a +ℤ b) ≡ false
sum_near a b la lb = near (a +ℤ b) (omega (arith, ints))

step_char : (fonts : SetValue) (reached : Reached) (c : Cursor) (n code : ℕ) (put : Bool) (metrics : Metrics) (rest : List ℕ) → metrics_at fonts n ≡ Some metrics → exists metrics code ≡ true
    → is_far (c.h +ℤ width_of metrics code) ≡ false → is_far c.h ≡ false → is_far c.v ≡ false → nat_le max_places reached.file.place_count ≡ false
    → file_step fonts (in_page reached (record c { font = Some n })).file (Char put code) rest
    ≡ Continues (in_page (with_place reached (places.Glyph n code c.h c.v) put) (record c { h = if put then c.h else c.h +ℤ width_of metrics code; font = Some n })).file
step_char fonts reached c n code true metrics rest font there after h v few = rw (font, there, h, v, few) refl
step_char fonts reached c n code false metrics rest font there after h v few = rw (font, there, after, v, few) refl

step_rule : (fonts : SetValue) (reached : Reached) (c : Cursor) (height width : ℤ) (put : Bool) (rest : List ℕ) → is_positive height ≡ true → is_positive width ≡ true
    → is_far (c.h +ℤ width) ≡ false → is_far c.h ≡ false → is_far c.v ≡ false → nat_le max_places reached.file.place_count ≡ false
    → file_step fonts (in_page reached c).file (Rule put height width) rest
    ≡ Continues (in_page (with_place reached (places.Rule c.h c.v height width) put) (record c { h = if put then c.h else c.h +ℤ width })).file
step_rule fonts reached c height width true rest tall wide after h v few = rw (tall, wide, h, v, few) refl
step_rule fonts reached c height width false rest tall wide after h v few = rw (tall, wide, after, v, few) refl

-- set_char below 128, and one byte else
short_char : (put : Bool) (code : ℕ) → is_short_char (own_code (Char put code)) (own_size (Char put code)) put code ≡ true
short_char true code = refl
short_char false code = by_test (nat_lt code 128) refl where
  by_test : (b : Bool) → nat_lt code 128 ≡ b → is_short_char (if b then code else 128) (if b then 0 else 1) false code ≡ true
  by_test true e = rw e refl
  by_test false e = rw e refl

lean_char : (put : Bool) (code : ℕ) (before after : Machine) → is_lean (record { code = own_code (Char put code); size = own_size (Char put code); says = Char put code; before = before; after = after }) ≡ true
lean_char put code before after = short_char put code

glyph_at : (fonts : SetValue) (old new : List ℕ) (numbers : List ℕ) (reached : Reached) (c : Cursor) (n code : ℕ) (put : Bool) (metrics : Metrics) → metrics_at fonts n ≡ Some metrics → HasGlyph metrics code
    → Emits 2 old new (Char put code) → InRange c.h → InRange c.v → reached.file.place_count < max_places
    → StandsWith fonts old reached numbers (record c { font = Some n }) Chosen
    → StandsWith fonts new (with_place reached (places.Glyph n code c.h c.v) put) numbers (cursor_after fonts (places.Glyph n code c.h c.v) put c) Arrived
glyph_at fonts old new numbers reached c n code put metrics is can emits h v few stands =
    let next : Cursor = record c { h = if put then c.h else c.h +ℤ width_of metrics code; font = Some n } in
    let e : next ≡ cursor_after fonts (places.Glyph n code c.h c.v) put c = rw is refl in
    let here : Cursor = record c { font = Some n } in
    let o = own_opcode (Char put code) here next in
    subst (λ (x : Cursor). StandsWith fonts new (with_place reached (places.Glyph n code c.h c.v) put) numbers x Arrived) e
    (record {
      page = stands.page ++ o ∷ [];
      lean = lean_next stands.page o here next Chosen Arrived stands.lean [] refl (lean_char put code (machine_at here) (machine_at next))
          (λ rest e. same_nat n) (λ rest e. refl) (λ rest. refl) (λ rest. refl) (λ rest. rw stands.lean.allows refl);
      leads = leads_next fonts old new (in_page (with_opcodes (with_definitions fonts reached numbers) stands.page) here) (in_page (with_opcodes (with_definitions fonts (with_place reached (places.Glyph n code c.h c.v) put) numbers) (stands.page ++ o ∷ [])) next) (Char put code) 2 stands.leads emits
          (λ rest. step_char fonts (at_page old (with_definitions fonts reached numbers) stands.page) c n code put metrics rest is can.there
          (sum_near c.h (width_of metrics code) (half _ h) (half _ can.width)) (near c.h (small _ h)) (near c.v (small _ v)) (below reached.file.place_count few)) refl;
    })

by_font : (fonts : SetValue) (n code : ℕ) (o : Option Metrics) → metrics_at fonts n ≡ o → IsSomeAnd o (λ (metrics : Metrics). HasGlyph metrics code) → (metrics : Metrics) × (metrics_at fonts n ≡ Some metrics) × HasGlyph metrics code
by_font fonts n code (Some metrics) is can = (metrics, is, can)
by_font fonts n code None is can = absurd can

pub glyph_written : (fonts : SetValue) (old new : List ℕ) (numbers : List ℕ) (reached : Reached) (c : Cursor) (n code : ℕ) (put : Bool) → IsSomeAnd (metrics_at fonts n) (λ (metrics : Metrics). HasGlyph metrics code)
    → Emits 2 old new (Char put code) → InRange c.h → InRange c.v → reached.file.place_count < max_places
    → StandsWith fonts old reached numbers (record c { font = Some n }) Chosen
    → StandsWith fonts new (with_place reached (places.Glyph n code c.h c.v) put) numbers (cursor_after fonts (places.Glyph n code c.h c.v) put c) Arrived
glyph_written fonts old new numbers reached c n code put can emits h v few stands =
    let f = by_font fonts n code (metrics_at fonts n) refl can in
    glyph_at fonts old new numbers reached c n code put f.0 f.1 f.2 emits h v few stands

pub rule_written : (fonts : SetValue) (old new : List ℕ) (numbers : List ℕ) (reached : Reached) (c : Cursor) (height width : ℤ) (put : Bool) → IsWritable fonts (places.Rule c.h c.v height width)
    → Emits 9 old new (Rule put height width) → reached.file.place_count < max_places
    → StandsWith fonts old reached numbers c Lowered
    → StandsWith fonts new (with_place reached (places.Rule c.h c.v height width) put) numbers (cursor_after fonts (places.Rule c.h c.v height width) put c) Arrived
rule_written fonts old new numbers reached c height width put can emits few stands =
    let next = cursor_after fonts (places.Rule c.h c.v height width) put c in
    let o = own_opcode (Rule put height width) c next in
    record {
      page = stands.page ++ o ∷ [];
      lean = lean_next stands.page o c next Lowered Arrived stands.lean [] refl (rw (positive height can.tall, positive width can.wide) refl)
          (λ rest e. tt) (λ rest e. refl) (λ rest. refl) (λ rest. refl) (λ rest. rw stands.lean.allows refl);
      leads = leads_next fonts old new (in_page (with_opcodes (with_definitions fonts reached numbers) stands.page) c) (in_page (with_opcodes (with_definitions fonts (with_place reached (places.Rule c.h c.v height width) put) numbers) (stands.page ++ o ∷ [])) next) (Rule put height width) 9 stands.leads emits
          (λ rest. step_rule fonts (at_page old (with_definitions fonts reached numbers) stands.page) c height width put rest (positive height can.tall) (positive width can.wide)
          (sum_near c.h width (half _ can.h_in_range) (half _ can.width_in_range)) (near c.h (small _ can.h_in_range)) (near c.v (small _ can.v_in_range)) (below reached.file.place_count few)) refl;
    }

-- the place where the machine is, by its own coordinates
pub glyph_here : (fonts : SetValue) (old new old_defined new_defined : List ℕ) (there : Cursor) (n code : ℕ) (h v : ℤ) (put : Bool) → there.h ≡ h → there.v ≡ v
    → FillsPlace fonts old new old_defined new_defined there (places.Glyph n code there.h there.v) put
    → FillsPlace fonts old new old_defined new_defined there (places.Glyph n code h v) put
glyph_here fonts old new old_defined new_defined there n code h v put is_h is_v fills = λ reached few stands.
    subst (λ (z : ℤ). StandsWith fonts new (with_place reached (places.Glyph n code z v) put) new_defined (cursor_after fonts (places.Glyph n code z v) put there) Arrived) is_h
    (subst (λ (z : ℤ). StandsWith fonts new (with_place reached (places.Glyph n code there.h z) put) new_defined (cursor_after fonts (places.Glyph n code there.h z) put there) Arrived) is_v
    (fills reached few stands))

pub rule_here : (fonts : SetValue) (old new defined : List ℕ) (there : Cursor) (h v height width : ℤ) (put : Bool) → there.h ≡ h → there.v ≡ v
    → FillsPlace fonts old new defined defined there (places.Rule there.h there.v height width) put
    → FillsPlace fonts old new defined defined there (places.Rule h v height width) put
rule_here fonts old new defined there h v height width put is_h is_v fills = λ reached few stands.
    subst (λ (z : ℤ). StandsWith fonts new (with_place reached (places.Rule z v height width) put) defined (cursor_after fonts (places.Rule z v height width) put there) Arrived) is_h
    (subst (λ (z : ℤ). StandsWith fonts new (with_place reached (places.Rule there.h z height width) put) defined (cursor_after fonts (places.Rule there.h z height width) put there) Arrived) is_v
    (fills reached few stands))

-- with the moves before it
pub place_there : (fonts : SetValue) (old mid new old_defined new_defined : List ℕ) (cursor there after : Cursor) (place : Place) (put : Bool)
    → ((reached : Reached) → Stands fonts old reached cursor Arrived → Stands fonts mid reached there Lowered)
    → FillsPlace fonts mid new old_defined new_defined there place put → after ≡ record there { font = font_after place there.font }
    → WritesPlace fonts old new old_defined new_defined cursor after place put
place_there fonts old mid new old_defined new_defined cursor there after (places.Glyph n code h v) put moves fills is = λ reached few stands.
    subst (λ (x : Cursor). StandsWith fonts new (with_place reached (places.Glyph n code h v) put) new_defined (cursor_after fonts (places.Glyph n code h v) put x) Arrived) (sym is)
    (fills reached few (moves (with_definitions fonts reached old_defined) stands))
place_there fonts old mid new old_defined new_defined cursor there after (places.Rule h v height width) put moves fills is = λ reached few stands.
    subst (λ (x : Cursor). StandsWith fonts new (with_place reached (places.Rule h v height width) put) new_defined (cursor_after fonts (places.Rule h v height width) put x) Arrived) (sym is)
    (fills reached few (moves (with_definitions fonts reached old_defined) stands))

-- the cursor is there then
pub at_place : (place : Place) (cursor there after : Cursor) → there.h ≡ h_of place → there.v ≡ v_of place → there.font ≡ cursor.font → after ≡ record there { font = font_after place there.font }
    → IsAt place cursor after
at_place place cursor there after h v font is = subst (λ (x : Cursor). IsAt place cursor x) (sym is) (record { h = h; v = v; font = ap (font_after place) font })
