-- The rows of a table one below another, gone through downward.
use Rattle.std.proofs.Common.{◌≡◌, ℕ, ◌≤◌, ◌+◌, ◌-◌, ◌*◌, ◌^◌, List, [], ◌∷◌, ◌++◌, length, map, ℤ, pos, ◌+ℤ◌, ◌≤ℤ◌, Option, Some, refl, arith, append_assoc, sym, ◌∙◌, ap, subst, w64, to_z, of_z, All}
use Rattle.std.proofs.lemmas.Int.{ints, clamps}
use Rattle.std.proofs.lemmas.List.Elements.{All-push}
use Rattle.std.specs.Int.{int_max}
use Rattle.std.specs.Option.{ForSome}
use Rattle.mt_scaled.specs.Number.{Within, max_dimen}
use Rattle.mt_scaled.specs.declared.length.Length.{Length}
use Rattle.mt_box.specs.declared.extents.Extents.{Extents}
use Rattle.mt_box.specs.Extents.{ExtentsInRange}
use Rattle.mt_box.proofs.Lists.{nil_right}
use Rattle.mt_rules.specs.Tables.{cells_height, cells_depth}
use Rattle.mt_align.specs.declared.look.Look.{Look}
use Rattle.mt_align.specs.declared.look.Look.TheVariants.{Matrix, Equations}
use Rattle.mt_align.specs.CellLayers.{bare, bare_rows}
use Rattle.mt_align.specs.Looks.{least_height, least_depth}
use Rattle.mt_align.specs.RowLines.{depth_value, gap_before, last_depth, line_depth, line_height, line_drops, lines_end}

-- ---- a row

-- the cells that are left may be higher and deeper than those so far
pub record Lining (look : Look) (cells rest : List Extents) (h d : ℤ) : Type 0 where
  pub high : int_max h (cells_height (map bare rest)) ≡ line_height look (map bare cells)
  pub deep : int_max d (cells_depth (map bare rest)) ≡ line_depth look (map bare cells)
  pub high_low : pos 0 ≤ℤ h
  pub deep_low : pos 0 ≤ℤ d
  pub high_small : Within max_dimen h
  pub deep_small : Within max_dimen d

least_height-low : (look : Look) → pos 0 ≤ℤ least_height look
least_height-low Matrix = omega (arith, ints)
least_height-low Equations = omega (arith, ints)

least_depth-low : (look : Look) → pos 0 ≤ℤ least_depth look
least_depth-low Matrix = omega (arith, ints)
least_depth-low Equations = omega (arith, ints)

pub lining_start : (look : Look) (cells rest : List Extents) (h d : ℤ) → rest ≡ cells → h ≡ least_height look → d ≡ least_depth look → Within max_dimen h → Within max_dimen d → Lining look cells rest h d
lining_start look cells rest h d e a b k l = record {
  high = rw (e, a) refl;
  deep = rw (e, b) refl;
  high_low = rw a (least_height-low look);
  deep_low = rw b (least_depth-low look);
  high_small = k;
  deep_small = l;
}

max_more : (h c r h' s : ℤ) → int_max h (int_max c r) ≡ s → h' ≡ int_max c h → int_max h' r ≡ s
max_more h c r h' s e f = omega (arith, ints, clamps, e, f)

max_low : (h c h' : ℤ) → pos 0 ≤ℤ h → h' ≡ int_max c h → pos 0 ≤ℤ h'
max_low h c h' k e = omega (arith, ints, clamps, k, e)

max_small : (h c h' : ℤ) → Within max_dimen h → Within max_dimen c → h' ≡ int_max c h → Within max_dimen h'
max_small h c h' k l e = record { low = omega (arith, ints, clamps, k.low, l.low, e); high = omega (arith, ints, clamps, k.high, l.high, e) }

pub lining_more : (look : Look) (cells rest rest' : List Extents) (c : Extents) (h d h' d' : ℤ) → Lining look cells rest h d → rest ≡ c ∷ rest' → ExtentsInRange c → h' ≡ int_max c.height h → d' ≡ int_max c.depth d → Lining look cells rest' h' d'
lining_more look cells rest rest' c h d h' d' k e range a b =
    let k' : Lining look cells (c ∷ rest') h d = subst (λ r. Lining look cells r h d) e k in
    record {
      high = max_more h c.height (cells_height (map bare rest')) h' (line_height look (map bare cells)) k'.high a;
      deep = max_more d c.depth (cells_depth (map bare rest')) d' (line_depth look (map bare cells)) k'.deep b;
      high_low = max_low h c.height h' k'.high_low a;
      deep_low = max_low d c.depth d' k'.deep_low b;
      high_small = max_small h c.height h' k'.high_small range.height a;
      deep_small = max_small d c.depth d' k'.deep_small range.depth b;
    }

at_end : (h s : ℤ) → int_max h (pos 0) ≡ s → pos 0 ≤ℤ h → h ≡ s
at_end h s e low = omega (arith, ints, clamps, e, low)

pub record LineIs (look : Look) (cells : List Extents) (h d : ℤ) : Type 0 where
  pub height : h ≡ line_height look (map bare cells)
  pub depth : d ≡ line_depth look (map bare cells)
  pub high : Within max_dimen h
  pub deep : Within max_dimen d

pub lining_end : (look : Look) (cells rest : List Extents) (h d : ℤ) → Lining look cells rest h d → rest ≡ [] → LineIs look cells h d
lining_end look cells rest h d k e =
    let k' : Lining look cells [] h d = subst (λ r. Lining look cells r h d) e k in
    record { height = at_end h _ k'.high k'.high_low; depth = at_end d _ k'.deep k'.deep_low; high = k'.high_small; deep = k'.deep_small }

-- ---- all rows

-- what is left goes on from the rows so far
pub record GoingDown (look : Look) (above : ℤ) (before : Option ℤ) (rows rest : List (List Extents)) (drops : List ℤ) (total : ℤ) (depth : Option Length) : Type 0 where
  pub drops_are : drops ++ line_drops look total (depth_value depth) (bare_rows rest) ≡ line_drops look above before (bare_rows rows)
  pub ends : lines_end look total (depth_value depth) (bare_rows rest) ≡ lines_end look above before (bare_rows rows)
  pub last : last_depth look (depth_value depth) (bare_rows rest) ≡ last_depth look before (bare_rows rows)
  pub near : Within (2 ^ 33 * (2 ^ 20 - length rest)) total
  pub few : length rest ≤ 2 ^ 19
  pub far : All (Within (2 ^ 54)) drops
  pub depth_small : ForSome depth (λ (d : Length). Within max_dimen d.sp)

start_near : (n : ℕ) (a : ℤ) → n ≤ 2 ^ 19 → Within (2 ^ 33) a → Within (2 ^ 33 * (2 ^ 20 - n)) a
start_near n a few h = record { low = omega (arith, ints, h.low, few); high = omega (arith, ints, h.high, few) }

pub down_start : (look : Look) (above : ℤ) (depth : Option Length) (rows rest : List (List Extents)) (drops : List ℤ) → drops ≡ [] → rest ≡ rows → length rows ≤ 2 ^ 19 → Within (2 ^ 33) above → ForSome depth (λ (d : Length). Within max_dimen d.sp) → All (Within (2 ^ 54)) drops
    → GoingDown look above (depth_value depth) rows rest drops above depth
down_start look above depth rows rest drops e f few small deep far = record {
  drops_are = rw (e, f) refl;
  ends = rw f refl;
  last = rw f refl;
  near = rw f (start_near (length rows) above few small);
  few = rw f few;
  far = far;
  depth_small = deep;
}

moved_on : (n m : ℕ) (t g h d t' : ℤ) → m ≡ n + 1 → m ≤ 2 ^ 19 → t' ≡ (t +ℤ (g +ℤ h)) +ℤ d → Within (2 ^ 33 * (2 ^ 20 - m)) t → Within (2 ^ 32) g → Within max_dimen h → Within max_dimen d → Within (2 ^ 33 * (2 ^ 20 - n)) t'
moved_on n m t g h d t' e few is a b c k = record {
  low = omega (arith, ints, a.low, b.low, c.low, k.low, is, e, few);
  high = omega (arith, ints, a.high, b.high, c.high, k.high, is, e, few);
}

drop_near : (m : ℕ) (t g h y : ℤ) → m ≤ 2 ^ 19 → y ≡ t +ℤ (g +ℤ h) → Within (2 ^ 33 * (2 ^ 20 - m)) t → Within (2 ^ 32) g → Within max_dimen h → Within (2 ^ 54) y
drop_near m t g h y few is a b c = record {
  low = omega (arith, ints, a.low, b.low, c.low, is, few);
  high = omega (arith, ints, a.high, b.high, c.high, is, few);
}

pub kept_drop : (y : ℤ) → Within (2 ^ 54) y → to_z w64 (of_z w64 y) ≡ y
kept_drop y h = omega (arith, ints, h.low, h.high)

pub down_more : (look : Look) (above : ℤ) (before : Option ℤ) (rows rest rest' : List (List Extents)) (cells : List Extents) (drops drops' : List ℤ) (total y g h d : ℤ) (depth : Option Length) → GoingDown look above before rows rest drops total depth → rest ≡ cells ∷ rest'
    → h ≡ line_height look (map bare cells) → d ≡ line_depth look (map bare cells) → g ≡ gap_before look (depth_value depth) h → y ≡ total +ℤ (g +ℤ h) → drops' ≡ drops ++ to_z w64 (of_z w64 y) ∷ [] → Within (2 ^ 32) g → Within max_dimen h → Within max_dimen d
    → (total' : ℤ) (depth' : Length) → total' ≡ y +ℤ d → depth'.sp ≡ d → GoingDown look above before rows rest' drops' total' (Some depth')
down_more look above before rows rest rest' cells drops drops' total y g h d depth k e is_h is_d is_g is_y f' small high deep total' depth' is_t is_d' =
    let k' : GoingDown look above before rows (cells ∷ rest') drops total depth = subst (λ r. GoingDown look above before rows r drops total depth) e k in
    let y_near = drop_near (length (cells ∷ rest')) total g h y k'.few is_y k'.near small high in
    let f : drops' ≡ drops ++ y ∷ [] = rw (kept_drop y y_near) at f' in
    let y_is : y ≡ total +ℤ (gap_before look (depth_value depth) (line_height look (map bare cells)) +ℤ line_height look (map bare cells)) =
    is_y ∙ (ap (λ z. total +ℤ (z +ℤ h)) is_g ∙ ap (λ z. total +ℤ (gap_before look (depth_value depth) z +ℤ z)) is_h) in
    let bottom : total' ≡ y +ℤ line_depth look (map bare cells) = is_t ∙ ap (λ z. y +ℤ z) is_d in
    let under : depth'.sp ≡ line_depth look (map bare cells) = is_d' ∙ is_d in
    record {
      drops_are = rw (f, append_assoc drops (y ∷ []) (line_drops look total' (Some depth'.sp) (bare_rows rest')), bottom, under, y_is) k'.drops_are;
      ends = rw (bottom, under, y_is) k'.ends;
      last = rw under k'.last;
      near = moved_on (length rest') (length (cells ∷ rest')) total g h d total' (omega arith) k'.few (is_t ∙ ap (λ z. z +ℤ d) is_y) k'.near small high deep;
      few = omega (arith, k'.few);
      far = rw f (All-push (Within (2 ^ 54)) drops y k'.far y_near);
      depth_small = λ x p. (let same : x.sp ≡ d = cc in subst (λ z. Within max_dimen z) (sym same) deep);
    }

pub record DownAll (look : Look) (above : ℤ) (before : Option ℤ) (rows : List (List Extents)) (drops : List ℤ) (total : ℤ) (depth : Option Length) : Type 0 where
  pub drops_are : drops ≡ line_drops look above before (bare_rows rows)
  pub ends : total ≡ lines_end look above before (bare_rows rows)
  pub last : depth_value depth ≡ last_depth look before (bare_rows rows)
  pub small : Within (2 ^ 53) total

pub down_end : (look : Look) (above : ℤ) (before : Option ℤ) (rows rest : List (List Extents)) (drops : List ℤ) (total : ℤ) (depth : Option Length) → GoingDown look above before rows rest drops total depth → rest ≡ [] → DownAll look above before rows drops total depth
down_end look above before rows rest drops total depth k e =
    let k' : GoingDown look above before rows [] drops total depth = subst (λ r. GoingDown look above before rows r drops total depth) e k in
    record {
      drops_are = sym (nil_right drops) ∙ k'.drops_are;
      ends = k'.ends;
      last = k'.last;
      small = record { low = omega (arith, ints, k'.near.low); high = omega (arith, ints, k'.near.high) };
    }

-- a strut more
pub total_small : (t g s b z : ℤ) → z ≡ t +ℤ b → b ≡ g +ℤ s → Within (2 ^ 53) t → Within (2 ^ 32) g → Within (2 ^ 32) s → Within (2 ^ 54) z
total_small t g s b z is_z is_b h k l = record { low = omega (arith, ints, is_z, is_b, h.low, k.low, l.low); high = omega (arith, ints, is_z, is_b, h.high, k.high, l.high) }
