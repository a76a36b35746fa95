-- The toy fonts make a set.
use Rattle.std.proofs.Common.{◌≡◌, None, refl}
use Rattle.mt_family.specs.SetValue.{AreLoaded}
use Rattle.mt_family.specs.Sets.{set_fault}
use Rattle.mt_samples.specs.Bytes.{symbols_bytes, extension_bytes}
use Rattle.mt_samples.specs.FontSet.{toy_set}
use Rattle.mt_samples.specs.Lists.{toy_list}
use Rattle.mt_tfm.specs.Font.{metrics_of, metrics_in}

pub toy_loaded : AreLoaded toy_set.lines toy_set.fonts
unfolding metrics_of metrics_in
toy_loaded = record { count = refl; sizes = refl; skews = refl }

pub toy_set_passes : set_fault toy_list toy_set.fonts ≡ None
unfolding metrics_of metrics_in symbols_bytes extension_bytes
toy_set_passes = refl
