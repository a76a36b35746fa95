-- The toy fonts.
use Rattle.std.specs.Prelude.{pos, [], ◌∷◌, ◌++◌, replicate, Some, None}
use Rattle.mt_tfm.specs.Font.{Metrics}
use Rattle.mt_family.specs.SetValue.{SetValue}
use Rattle.mt_rules.proofs.cases.Writing.{neg, absent, char}

abbrev pub roman10 : Metrics
roman10 = record {
  first = 12;
  chars = (char 1 1 0 0 0 0 ∷ []) ++ (replicate 20 (absent) ++ (replicate 61 (char 2 1 0 0 0 0) ++ ((char 2 2 0 0 0 0 ∷ []) ++ (replicate 7 (char 2 1 0 0 0 0) ++ ((char 2 1 0 0 1 0 ∷ []) ++ (replicate 24 (char 2 1 0 0 0 0)))))));
  widths = pos 0 ∷ pos 409600 ∷ pos 327680 ∷ [];
  heights = pos 0 ∷ pos 327680 ∷ pos 491520 ∷ [];
  depths = pos 0 ∷ [];
  italics = pos 0 ∷ [];
  program = record { skip = 0; next = 105; op = 0; remainder = 12 } ∷ record { skip = 0; next = 102; op = 128; remainder = 0 } ∷ record { skip = 128; next = 108; op = 1; remainder = 12 } ∷ [];
  kerns = neg 40960 ∷ [];
  recipes = [];
  params = pos 0 ∷ pos 204800 ∷ pos 0 ∷ pos 0 ∷ pos 327680 ∷ pos 655360 ∷ pos 0 ∷ [];
  skew = None;
  checksum = 0;
  design = 655360;
  at = pos 655360;
}

abbrev pub roman7 : Metrics
roman7 = record {
  first = 12;
  chars = (char 1 1 0 0 0 0 ∷ []) ++ (replicate 20 (absent) ++ (replicate 61 (char 2 1 0 0 0 0) ++ ((char 2 2 0 0 0 0 ∷ []) ++ (replicate 7 (char 2 1 0 0 0 0) ++ ((char 2 1 0 0 1 0 ∷ []) ++ (replicate 24 (char 2 1 0 0 0 0)))))));
  widths = pos 0 ∷ pos 286720 ∷ pos 229376 ∷ [];
  heights = pos 0 ∷ pos 229376 ∷ pos 344064 ∷ [];
  depths = pos 0 ∷ [];
  italics = pos 0 ∷ [];
  program = record { skip = 0; next = 105; op = 0; remainder = 12 } ∷ record { skip = 0; next = 102; op = 128; remainder = 0 } ∷ record { skip = 128; next = 108; op = 1; remainder = 12 } ∷ [];
  kerns = neg 28672 ∷ [];
  recipes = [];
  params = pos 0 ∷ pos 143360 ∷ pos 0 ∷ pos 0 ∷ pos 229376 ∷ pos 458752 ∷ pos 0 ∷ [];
  skew = None;
  checksum = 0;
  design = 655360;
  at = pos 458752;
}

abbrev pub roman5 : Metrics
roman5 = record {
  first = 12;
  chars = (char 1 1 0 0 0 0 ∷ []) ++ (replicate 20 (absent) ++ (replicate 61 (char 2 1 0 0 0 0) ++ ((char 2 2 0 0 0 0 ∷ []) ++ (replicate 7 (char 2 1 0 0 0 0) ++ ((char 2 1 0 0 1 0 ∷ []) ++ (replicate 24 (char 2 1 0 0 0 0)))))));
  widths = pos 0 ∷ pos 204800 ∷ pos 163840 ∷ [];
  heights = pos 0 ∷ pos 163840 ∷ pos 245760 ∷ [];
  depths = pos 0 ∷ [];
  italics = pos 0 ∷ [];
  program = record { skip = 0; next = 105; op = 0; remainder = 12 } ∷ record { skip = 0; next = 102; op = 128; remainder = 0 } ∷ record { skip = 128; next = 108; op = 1; remainder = 12 } ∷ [];
  kerns = neg 20480 ∷ [];
  recipes = [];
  params = pos 0 ∷ pos 102400 ∷ pos 0 ∷ pos 0 ∷ pos 163840 ∷ pos 327680 ∷ pos 0 ∷ [];
  skew = None;
  checksum = 0;
  design = 655360;
  at = pos 327680;
}

abbrev pub italic10 : Metrics
italic10 = record {
  first = 33;
  chars = replicate 69 (char 1 1 0 0 0 0) ++ ((char 1 1 0 1 1 0 ∷ []) ++ (replicate 25 (char 1 1 0 0 0 0)));
  widths = pos 0 ∷ pos 327680 ∷ [];
  heights = pos 0 ∷ pos 327680 ∷ [];
  depths = pos 0 ∷ [];
  italics = pos 0 ∷ pos 81920 ∷ [];
  program = record { skip = 128; next = 127; op = 128; remainder = 0 } ∷ [];
  kerns = pos 40960 ∷ [];
  recipes = [];
  params = pos 0 ∷ pos 0 ∷ pos 0 ∷ pos 0 ∷ pos 327680 ∷ pos 655360 ∷ pos 0 ∷ [];
  skew = Some 127;
  checksum = 0;
  design = 655360;
  at = pos 655360;
}

abbrev pub italic7 : Metrics
italic7 = record {
  first = 33;
  chars = replicate 69 (char 1 1 0 0 0 0) ++ ((char 1 1 0 1 1 0 ∷ []) ++ (replicate 25 (char 1 1 0 0 0 0)));
  widths = pos 0 ∷ pos 229376 ∷ [];
  heights = pos 0 ∷ pos 229376 ∷ [];
  depths = pos 0 ∷ [];
  italics = pos 0 ∷ pos 57344 ∷ [];
  program = record { skip = 128; next = 127; op = 128; remainder = 0 } ∷ [];
  kerns = pos 28672 ∷ [];
  recipes = [];
  params = pos 0 ∷ pos 0 ∷ pos 0 ∷ pos 0 ∷ pos 229376 ∷ pos 458752 ∷ pos 0 ∷ [];
  skew = Some 127;
  checksum = 0;
  design = 655360;
  at = pos 458752;
}

abbrev pub italic5 : Metrics
italic5 = record {
  first = 33;
  chars = replicate 69 (char 1 1 0 0 0 0) ++ ((char 1 1 0 1 1 0 ∷ []) ++ (replicate 25 (char 1 1 0 0 0 0)));
  widths = pos 0 ∷ pos 163840 ∷ [];
  heights = pos 0 ∷ pos 163840 ∷ [];
  depths = pos 0 ∷ [];
  italics = pos 0 ∷ pos 40960 ∷ [];
  program = record { skip = 128; next = 127; op = 128; remainder = 0 } ∷ [];
  kerns = pos 20480 ∷ [];
  recipes = [];
  params = pos 0 ∷ pos 0 ∷ pos 0 ∷ pos 0 ∷ pos 163840 ∷ pos 327680 ∷ pos 0 ∷ [];
  skew = Some 127;
  checksum = 0;
  design = 655360;
  at = pos 327680;
}

abbrev pub symbols10 : Metrics
symbols10 = record {
  first = 0;
  chars = (char 1 1 0 0 0 0 ∷ []) ++ (replicate 111 (char 1 2 0 0 0 0) ++ ((char 1 3 1 0 0 0 ∷ []) ++ (replicate 14 (char 1 2 0 0 0 0))));
  widths = pos 0 ∷ pos 327680 ∷ [];
  heights = pos 0 ∷ pos 81920 ∷ pos 327680 ∷ pos 40960 ∷ [];
  depths = pos 0 ∷ pos 614400 ∷ [];
  italics = pos 0 ∷ [];
  program = [];
  kerns = [];
  recipes = [];
  params = pos 0 ∷ pos 0 ∷ pos 0 ∷ pos 0 ∷ pos 327680 ∷ pos 655360 ∷ pos 0 ∷ pos 450560 ∷ pos 245760 ∷ pos 286720 ∷ pos 450560 ∷ pos 245760 ∷ pos 286720 ∷ pos 245760 ∷ pos 204800 ∷ pos 81920 ∷ pos 163840 ∷ pos 245760 ∷ pos 40960 ∷ pos 1556480 ∷ pos 655360 ∷ pos 163840 ∷ [];
  skew = None;
  checksum = 0;
  design = 655360;
  at = pos 655360;
}

abbrev pub symbols7 : Metrics
symbols7 = record {
  first = 0;
  chars = (char 1 1 0 0 0 0 ∷ []) ++ (replicate 111 (char 1 2 0 0 0 0) ++ ((char 1 3 1 0 0 0 ∷ []) ++ (replicate 14 (char 1 2 0 0 0 0))));
  widths = pos 0 ∷ pos 229376 ∷ [];
  heights = pos 0 ∷ pos 57344 ∷ pos 229376 ∷ pos 28672 ∷ [];
  depths = pos 0 ∷ pos 430080 ∷ [];
  italics = pos 0 ∷ [];
  program = [];
  kerns = [];
  recipes = [];
  params = pos 0 ∷ pos 0 ∷ pos 0 ∷ pos 0 ∷ pos 229376 ∷ pos 458752 ∷ pos 0 ∷ pos 315392 ∷ pos 172032 ∷ pos 200704 ∷ pos 315392 ∷ pos 172032 ∷ pos 200704 ∷ pos 172032 ∷ pos 143360 ∷ pos 57344 ∷ pos 114688 ∷ pos 172032 ∷ pos 28672 ∷ pos 1089536 ∷ pos 458752 ∷ pos 114688 ∷ [];
  skew = None;
  checksum = 0;
  design = 655360;
  at = pos 458752;
}

abbrev pub symbols5 : Metrics
symbols5 = record {
  first = 0;
  chars = (char 1 1 0 0 0 0 ∷ []) ++ (replicate 111 (char 1 2 0 0 0 0) ++ ((char 1 3 1 0 0 0 ∷ []) ++ (replicate 14 (char 1 2 0 0 0 0))));
  widths = pos 0 ∷ pos 163840 ∷ [];
  heights = pos 0 ∷ pos 40960 ∷ pos 163840 ∷ pos 20480 ∷ [];
  depths = pos 0 ∷ pos 307200 ∷ [];
  italics = pos 0 ∷ [];
  program = [];
  kerns = [];
  recipes = [];
  params = pos 0 ∷ pos 0 ∷ pos 0 ∷ pos 0 ∷ pos 163840 ∷ pos 327680 ∷ pos 0 ∷ pos 225280 ∷ pos 122880 ∷ pos 143360 ∷ pos 225280 ∷ pos 122880 ∷ pos 143360 ∷ pos 122880 ∷ pos 102400 ∷ pos 40960 ∷ pos 81920 ∷ pos 122880 ∷ pos 20480 ∷ pos 778240 ∷ pos 327680 ∷ pos 81920 ∷ [];
  skew = None;
  checksum = 0;
  design = 655360;
  at = pos 327680;
}

abbrev pub extension10 : Metrics
extension10 = record {
  first = 0;
  chars = (char 1 1 1 0 2 16 ∷ char 1 1 1 0 2 17 ∷ []) ++ (replicate 6 (absent) ++ ((char 1 1 2 0 2 56 ∷ char 1 1 2 0 2 57 ∷ []) ++ (replicate 4 (absent) ++ ((char 1 1 3 0 0 0 ∷ absent ∷ char 2 1 4 0 2 48 ∷ char 2 1 4 0 2 49 ∷ []) ++ (replicate 30 (absent) ++ ((char 3 0 5 0 3 0 ∷ char 3 0 5 0 3 1 ∷ []) ++ (replicate 6 (absent) ++ ((char 1 0 6 0 3 2 ∷ char 1 0 6 0 3 3 ∷ char 1 0 6 0 0 0 ∷ char 1 0 6 0 0 0 ∷ char 1 0 7 0 0 0 ∷ char 1 0 7 0 0 0 ∷ char 1 0 8 0 0 0 ∷ absent ∷ char 3 0 5 0 0 0 ∷ char 3 0 5 0 0 0 ∷ char 3 0 9 0 0 0 ∷ char 3 0 9 0 0 0 ∷ []) ++ (replicate 12 (absent) ++ ((char 4 0 10 0 2 88 ∷ absent ∷ char 1 0 11 1 2 90 ∷ []) ++ (replicate 5 (absent) ++ ((char 5 0 12 0 0 0 ∷ absent ∷ char 6 0 13 2 0 0 ∷ []) ++ (replicate 7 (absent) ++ ((char 6 2 0 0 2 99 ∷ char 7 2 0 0 0 0 ∷ []) ++ (replicate 12 (absent) ++ ((char 2 1 1 0 2 113 ∷ char 2 1 4 0 0 0 ∷ [])))))))))))))))));
  widths = pos 0 ∷ pos 327680 ∷ pos 409600 ∷ pos 573440 ∷ pos 491520 ∷ pos 819200 ∷ pos 368640 ∷ pos 655360 ∷ [];
  heights = pos 0 ∷ pos 40960 ∷ pos 491520 ∷ [];
  depths = pos 0 ∷ pos 942080 ∷ pos 696320 ∷ pos 450560 ∷ pos 1433600 ∷ pos 368640 ∷ pos 204800 ∷ pos 327680 ∷ pos 81920 ∷ pos 163840 ∷ pos 655360 ∷ pos 737280 ∷ pos 983040 ∷ pos 1474560 ∷ [];
  italics = pos 0 ∷ pos 163840 ∷ pos 286720 ∷ [];
  program = [];
  kerns = [];
  recipes = record { top = 48; middle = 0; bottom = 64; repeat = 66 } ∷ record { top = 49; middle = 0; bottom = 65; repeat = 67 } ∷ record { top = 56; middle = 60; bottom = 58; repeat = 62 } ∷ record { top = 57; middle = 61; bottom = 59; repeat = 62 } ∷ [];
  params = pos 0 ∷ pos 0 ∷ pos 0 ∷ pos 0 ∷ pos 327680 ∷ pos 655360 ∷ pos 0 ∷ pos 40960 ∷ pos 81920 ∷ pos 122880 ∷ pos 122880 ∷ pos 368640 ∷ pos 81920 ∷ [];
  skew = None;
  checksum = 0;
  design = 655360;
  at = pos 655360;
}

abbrev pub toy : SetValue
toy = record {
  lines = [];
  families = record { fam = 0; fonts = Some 0 ∷ Some 1 ∷ Some 2 ∷ [] } ∷ record { fam = 1; fonts = Some 3 ∷ Some 4 ∷ Some 5 ∷ [] } ∷ record { fam = 2; fonts = Some 6 ∷ Some 7 ∷ Some 8 ∷ [] } ∷ record { fam = 3; fonts = Some 9 ∷ Some 9 ∷ Some 9 ∷ [] } ∷ [];
  fonts = roman10 ∷ roman7 ∷ roman5 ∷ italic10 ∷ italic7 ∷ italic5 ∷ symbols10 ∷ symbols7 ∷ symbols5 ∷ extension10 ∷ [];
}
