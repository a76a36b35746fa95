-- A radical with its degree: the test of its two kerns.
use Rattle.std.proofs.Common.{◌≡◌, pos, negsuc, List, ◌∙◌, Result, Ok, Err, IsErrAnd}
use Rattle.mt_family.specs.SetValue.{SetValue}
use Rattle.mt_box.specs.declared.place.Place.{Place}
use Rattle.mt_box.specs.declared.extents.Extents.{Extents}
use Rattle.mt_box.specs.declared.error.PackError.{PackError}
use Rattle.mt_box.specs.declared.error.PackError.TheVariants.{Overflow as PackOverflow, OutOfMemory as NoPackMemory}
use Rattle.mt_box.specs.declared.piece.Piece.{Piece}
use Rattle.mt_box.specs.Layout.{Layout}
use Rattle.mt_rules.specs.declared.part_error.PartError.{PartError}
use Rattle.mt_rules.specs.declared.style.Style.{Style}
use Rattle.mt_rules.specs.PartErrors.{FromPacking}
use Rattle.mt_rules.specs.Setting.{Overflow, test_value}
use Rattle.mt_rules.specs.Calls.{RowAnswers}
use Rattle.mt_rules.specs.OnMarks.{SetsOn}
use Rattle.mt_rules.specs.MathUnits.{in_points}
use Rattle.mt_rules.specs.Roots.{root_row}
use Rattle.mt_rules.proofs.Answering.{then_ok, then_err}
use Rattle.mt_parts.specs.declared.root.RootKerns.{RootKerns}
use Rattle.mt_parts.specs.KernTests.{TestsKern, TestsKerns}
use Rattle.mt_parts.specs.PackedRoots.{packed_root}

-- the first kern is out of range
pub before_fault : (fonts : SetValue) (style : Style) (e : PackError) → TestsKern (Err e) (in_points fonts style (pos 327680)) → TestsKerns (Err e) fonts style
unfolding root_row
before_fault fonts style (PackOverflow value) h = λ degree radical. then_err (test_value (in_points fonts style (pos 327680))) (Overflow value) _ h
before_fault fonts style NoPackMemory h = tt

-- the second one is
pub behind_fault : (fonts : SetValue) (style : Style) (e : PackError) → test_value (in_points fonts style (pos 327680)) ≡ Ok tt → TestsKern (Err e) (in_points fonts style (negsuc 655359)) → TestsKerns (Err e) fonts style
unfolding root_row
behind_fault fonts style (PackOverflow value) passes h = λ degree radical.
    then_ok (test_value (in_points fonts style (pos 327680))) tt _ passes ∙ then_err (test_value (in_points fonts style (negsuc 655359))) (Overflow value) _ h
behind_fault fonts style NoPackMemory passes h = tt

pub kerns_pass : (fonts : SetValue) (style : Style) (kerns : RootKerns) → kerns.before.sp ≡ in_points fonts style (pos 327680) → kerns.behind.sp ≡ in_points fonts style (negsuc 655359)
    → test_value (in_points fonts style (pos 327680)) ≡ Ok tt → test_value (in_points fonts style (negsuc 655359)) ≡ Ok tt → TestsKerns (Ok kerns) fonts style
unfolding root_row
kerns_pass fonts style kerns p q passes pass = λ degree radical.
    rw (p, q) (then_ok (test_value (in_points fonts style (pos 327680))) tt _ passes ∙ then_ok (test_value (in_points fonts style (negsuc 655359))) tt _ pass)

-- ---- what the calls answer

pub row_fault : (fonts : SetValue) (style : Style) (degree radical : Layout) (r : Result (List Piece) PackError) (e : PackError) → IsErrAnd r (λ f. f ≡ e) → TestsKerns (Err e) fonts style → RowAnswers r (root_row fonts style degree radical)
row_fault fonts style degree radical (Ok row) e is h = absurd is
row_fault fonts style degree radical (Err f) (PackOverflow value) is h = rw is (h degree radical)
row_fault fonts style degree radical (Err f) NoPackMemory is h = rw is tt

pub root_fault : (fonts : SetValue) (style : Style) (degree radical : Layout) (r : Result Extents PartError) (ps : List Place) (e : PackError) → IsErrAnd r (λ f. FromPacking e f) → TestsKerns (Err e) fonts style → SetsOn r ps (packed_root fonts style degree radical)
root_fault fonts style degree radical (Ok row) ps e is h = absurd is
root_fault fonts style degree radical (Err f) ps (PackOverflow value) is h = rw is (then_err (root_row fonts style degree radical) (Overflow value) _ (h degree radical))
root_fault fonts style degree radical (Err f) ps NoPackMemory is h = rw is tt
