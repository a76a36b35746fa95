-- Made-up fonts with odd numbers. Entry i of each table of dimensions is that of the i-th character that exists.
use Rattle.std.specs.Prelude.{pos, [], ◌∷◌, Some, None}
use Rattle.mt_tfm.specs.Font.{Metrics}
use Rattle.mt_family.specs.SetValue.{SetValue}
use Rattle.mt_rules.proofs.cases.Writing.{neg, absent, alone, with_program, with_larger, with_recipe}

abbrev pub letters10 : Metrics
letters10 = record {
  first = 97;
  chars = (alone 1 ∷ with_program 2 0 ∷ alone 3 ∷ alone 4 ∷ alone 5 ∷ alone 6 ∷ alone 7 ∷ alone 8 ∷ alone 9 ∷ alone 10 ∷ alone 11 ∷ alone 12 ∷ []);
  widths = pos 0 ∷ pos 20000 ∷ pos 25001 ∷ pos 9 ∷ pos 0 ∷ neg 6001 ∷ pos 1073741823 ∷ pos 1073741824 ∷ pos 11 ∷ pos 11 ∷ pos 12 ∷ pos 1073741800 ∷ pos 7 ∷ [];
  heights = pos 0 ∷ pos 30001 ∷ pos 40000 ∷ pos 5 ∷ pos 0 ∷ pos 2001 ∷ pos 101 ∷ pos 5 ∷ pos 1073741825 ∷ pos 5 ∷ neg 1073741823 ∷ pos 7 ∷ pos 1073741723 ∷ [];
  depths = pos 0 ∷ neg 4001 ∷ pos 7001 ∷ pos 3 ∷ pos 0 ∷ pos 2001 ∷ pos 100 ∷ pos 5 ∷ pos 1073741826 ∷ neg 1073741824 ∷ pos 9 ∷ pos 7 ∷ pos 5 ∷ [];
  italics = pos 0 ∷ pos 0 ∷ pos 1501 ∷ neg 701 ∷ pos 0 ∷ pos 0 ∷ pos 1 ∷ pos 0 ∷ pos 0 ∷ pos 0 ∷ pos 0 ∷ pos 0 ∷ pos 0 ∷ [];
  program = record { skip = 0; next = 127; op = 128; remainder = 0 } ∷ record { skip = 0; next = 98; op = 128; remainder = 1 } ∷ record { skip = 128; next = 97; op = 1; remainder = 97 } ∷ [];
  kerns = pos 901 ∷ neg 301 ∷ [];
  recipes = [];
  params = pos 0 ∷ pos 0 ∷ pos 0 ∷ pos 0 ∷ pos 12001 ∷ [];
  skew = Some 127;
  checksum = 0;
  design = 655360;
  at = pos 655360;
}

abbrev pub letters7 : Metrics
letters7 = record {
  first = 97;
  chars = (alone 1 ∷ with_program 2 0 ∷ alone 3 ∷ alone 4 ∷ alone 5 ∷ alone 6 ∷ alone 7 ∷ alone 8 ∷ alone 9 ∷ alone 10 ∷ alone 11 ∷ alone 12 ∷ []);
  widths = pos 0 ∷ pos 14001 ∷ pos 17501 ∷ pos 7 ∷ pos 0 ∷ neg 4200 ∷ pos 1073741823 ∷ pos 1073741824 ∷ pos 11 ∷ pos 11 ∷ pos 12 ∷ pos 1073741800 ∷ pos 7 ∷ [];
  heights = pos 0 ∷ pos 21001 ∷ pos 28001 ∷ pos 4 ∷ pos 0 ∷ pos 1401 ∷ pos 101 ∷ pos 5 ∷ pos 1073741825 ∷ pos 5 ∷ neg 1073741823 ∷ pos 7 ∷ pos 1073741723 ∷ [];
  depths = pos 0 ∷ neg 2800 ∷ pos 4901 ∷ pos 3 ∷ pos 0 ∷ pos 1401 ∷ pos 100 ∷ pos 5 ∷ pos 1073741826 ∷ neg 1073741824 ∷ pos 9 ∷ pos 7 ∷ pos 5 ∷ [];
  italics = pos 0 ∷ pos 0 ∷ pos 1051 ∷ neg 490 ∷ pos 0 ∷ pos 0 ∷ pos 1 ∷ pos 0 ∷ pos 0 ∷ pos 0 ∷ pos 0 ∷ pos 0 ∷ pos 0 ∷ [];
  program = record { skip = 0; next = 127; op = 128; remainder = 0 } ∷ record { skip = 0; next = 98; op = 128; remainder = 1 } ∷ record { skip = 128; next = 97; op = 1; remainder = 97 } ∷ [];
  kerns = pos 901 ∷ neg 301 ∷ [];
  recipes = [];
  params = pos 0 ∷ pos 0 ∷ pos 0 ∷ pos 0 ∷ pos 12001 ∷ [];
  skew = Some 127;
  checksum = 0;
  design = 655360;
  at = pos 655360;
}

abbrev pub letters5 : Metrics
letters5 = record {
  first = 97;
  chars = (alone 1 ∷ with_program 2 0 ∷ alone 3 ∷ alone 4 ∷ alone 5 ∷ alone 6 ∷ alone 7 ∷ alone 8 ∷ alone 9 ∷ alone 10 ∷ alone 11 ∷ alone 12 ∷ []);
  widths = pos 0 ∷ pos 10001 ∷ pos 12501 ∷ pos 5 ∷ pos 0 ∷ neg 3000 ∷ pos 1073741823 ∷ pos 1073741824 ∷ pos 11 ∷ pos 11 ∷ pos 12 ∷ pos 1073741800 ∷ pos 7 ∷ [];
  heights = pos 0 ∷ pos 15001 ∷ pos 20001 ∷ pos 3 ∷ pos 0 ∷ pos 1001 ∷ pos 101 ∷ pos 5 ∷ pos 1073741825 ∷ pos 5 ∷ neg 1073741823 ∷ pos 7 ∷ pos 1073741723 ∷ [];
  depths = pos 0 ∷ neg 2000 ∷ pos 3501 ∷ pos 2 ∷ pos 0 ∷ pos 1001 ∷ pos 100 ∷ pos 5 ∷ pos 1073741826 ∷ neg 1073741824 ∷ pos 9 ∷ pos 7 ∷ pos 5 ∷ [];
  italics = pos 0 ∷ pos 0 ∷ pos 751 ∷ neg 350 ∷ pos 0 ∷ pos 0 ∷ pos 1 ∷ pos 0 ∷ pos 0 ∷ pos 0 ∷ pos 0 ∷ pos 0 ∷ pos 0 ∷ [];
  program = record { skip = 0; next = 127; op = 128; remainder = 0 } ∷ record { skip = 0; next = 98; op = 128; remainder = 1 } ∷ record { skip = 128; next = 97; op = 1; remainder = 97 } ∷ [];
  kerns = pos 901 ∷ neg 301 ∷ [];
  recipes = [];
  params = pos 0 ∷ pos 0 ∷ pos 0 ∷ pos 0 ∷ pos 12001 ∷ [];
  skew = Some 127;
  checksum = 0;
  design = 655360;
  at = pos 655360;
}

abbrev pub roman : Metrics
roman = record {
  first = 90;
  chars = (with_larger 1 91 ∷ with_larger 2 92 ∷ alone 3 ∷ with_larger 4 94 ∷ absent ∷ alone 5 ∷ with_larger 6 97 ∷ alone 7 ∷ alone 8 ∷ alone 9 ∷ []);
  widths = pos 0 ∷ pos 13001 ∷ pos 20000 ∷ pos 30000 ∷ pos 5001 ∷ pos 5 ∷ pos 22001 ∷ pos 900001 ∷ pos 24001 ∷ pos 22001 ∷ [];
  heights = pos 0 ∷ pos 9001 ∷ pos 9501 ∷ pos 9901 ∷ pos 2001 ∷ pos 2000000000 ∷ pos 8001 ∷ pos 8001 ∷ pos 31001 ∷ pos 40001 ∷ [];
  depths = pos 0 ∷ pos 1001 ∷ pos 1001 ∷ pos 901 ∷ neg 30001 ∷ pos 3 ∷ pos 6001 ∷ pos 6001 ∷ pos 101 ∷ pos 6001 ∷ [];
  italics = pos 0 ∷ pos 201 ∷ pos 301 ∷ pos 401 ∷ pos 0 ∷ pos 0 ∷ neg 15 ∷ pos 0 ∷ pos 1701 ∷ pos 0 ∷ [];
  program = [];
  kerns = [];
  recipes = [];
  params = pos 0 ∷ pos 5 ∷ pos 0 ∷ pos 0 ∷ pos 33001 ∷ pos 0 ∷ pos 0 ∷ [];
  skew = None;
  checksum = 0;
  design = 655360;
  at = pos 655360;
}

abbrev pub symbols10 : Metrics
symbols10 = record {
  first = 33;
  chars = (alone 1 ∷ alone 2 ∷ alone 3 ∷ []);
  widths = pos 0 ∷ pos 7001 ∷ pos 5 ∷ pos 6 ∷ [];
  heights = pos 0 ∷ pos 11001 ∷ neg 300 ∷ pos 40 ∷ [];
  depths = pos 0 ∷ pos 1000 ∷ pos 100 ∷ neg 40 ∷ [];
  italics = pos 0 ∷ pos 33 ∷ pos 0 ∷ pos 0 ∷ [];
  program = [];
  kerns = [];
  recipes = [];
  params = pos 0 ∷ pos 0 ∷ pos 0 ∷ pos 0 ∷ pos 15003 ∷ pos 36001 ∷ pos 0 ∷ pos 25001 ∷ pos 15001 ∷ pos 17003 ∷ pos 27001 ∷ pos 13001 ∷ pos 16001 ∷ pos 14001 ∷ pos 11001 ∷ pos 6001 ∷ pos 9001 ∷ pos 14003 ∷ pos 2001 ∷ pos 90001 ∷ pos 41003 ∷ pos 9003 ∷ [];
  skew = None;
  checksum = 0;
  design = 655360;
  at = pos 655360;
}

abbrev pub symbols7 : Metrics
symbols7 = record {
  first = 33;
  chars = (alone 1 ∷ alone 2 ∷ alone 3 ∷ []);
  widths = pos 0 ∷ pos 4901 ∷ pos 5 ∷ pos 6 ∷ [];
  heights = pos 0 ∷ pos 7701 ∷ neg 300 ∷ pos 40 ∷ [];
  depths = pos 0 ∷ pos 701 ∷ pos 100 ∷ neg 40 ∷ [];
  italics = pos 0 ∷ pos 24 ∷ pos 0 ∷ pos 0 ∷ [];
  program = [];
  kerns = [];
  recipes = [];
  params = pos 0 ∷ pos 0 ∷ pos 0 ∷ pos 0 ∷ pos 10501 ∷ pos 25201 ∷ pos 0 ∷ pos 17501 ∷ pos 10501 ∷ pos 11903 ∷ pos 18901 ∷ pos 9101 ∷ pos 11201 ∷ pos 9801 ∷ pos 7701 ∷ pos 4201 ∷ pos 6301 ∷ pos 9803 ∷ pos 1401 ∷ pos 63001 ∷ pos 28703 ∷ pos 6303 ∷ [];
  skew = None;
  checksum = 0;
  design = 655360;
  at = pos 655360;
}

abbrev pub symbols5 : Metrics
symbols5 = record {
  first = 33;
  chars = (alone 1 ∷ alone 2 ∷ alone 3 ∷ []);
  widths = pos 0 ∷ pos 3501 ∷ pos 5 ∷ pos 6 ∷ [];
  heights = pos 0 ∷ pos 5501 ∷ neg 300 ∷ pos 40 ∷ [];
  depths = pos 0 ∷ pos 501 ∷ pos 100 ∷ neg 40 ∷ [];
  italics = pos 0 ∷ pos 17 ∷ pos 0 ∷ pos 0 ∷ [];
  program = [];
  kerns = [];
  recipes = [];
  params = pos 0 ∷ pos 0 ∷ pos 0 ∷ pos 0 ∷ neg 7503 ∷ pos 18001 ∷ pos 0 ∷ pos 12501 ∷ pos 7501 ∷ pos 8502 ∷ pos 13501 ∷ pos 6501 ∷ pos 8001 ∷ pos 7001 ∷ pos 5501 ∷ pos 3001 ∷ pos 4501 ∷ pos 7002 ∷ pos 1001 ∷ pos 45001 ∷ pos 20502 ∷ pos 4502 ∷ [];
  skew = None;
  checksum = 0;
  design = 655360;
  at = pos 655360;
}

abbrev pub extension10 : Metrics
extension10 = record {
  first = 0;
  chars = (absent ∷ with_larger 1 2 ∷ with_larger 2 3 ∷ with_recipe 3 0 ∷ alone 4 ∷ alone 5 ∷ with_larger 6 7 ∷ with_recipe 7 1 ∷ alone 8 ∷ alone 9 ∷ alone 10 ∷ alone 11 ∷ with_recipe 12 2 ∷ with_recipe 13 3 ∷ alone 14 ∷ alone 15 ∷ with_recipe 16 4 ∷ alone 17 ∷ alone 18 ∷ with_larger 19 20 ∷ alone 20 ∷ with_larger 21 22 ∷ alone 22 ∷ with_larger 23 24 ∷ absent ∷ with_larger 24 26 ∷ alone 25 ∷ alone 26 ∷ alone 27 ∷ alone 28 ∷ with_recipe 29 5 ∷ with_recipe 30 6 ∷ alone 31 ∷ with_recipe 32 7 ∷ []);
  widths = pos 0 ∷ pos 10001 ∷ pos 12001 ∷ pos 14001 ∷ pos 14003 ∷ pos 13001 ∷ pos 8001 ∷ pos 8003 ∷ pos 8005 ∷ pos 8007 ∷ pos 7001 ∷ pos 5001 ∷ pos 5003 ∷ pos 5005 ∷ pos 5007 ∷ pos 5009 ∷ pos 5011 ∷ pos 8001 ∷ pos 8003 ∷ pos 12001 ∷ pos 20001 ∷ pos 8001 ∷ pos 9001 ∷ pos 9003 ∷ pos 10001 ∷ pos 11001 ∷ pos 11 ∷ pos 1073741820 ∷ pos 11003 ∷ pos 5013 ∷ pos 5015 ∷ pos 5017 ∷ pos 5019 ∷ [];
  heights = pos 0 ∷ pos 501 ∷ pos 1 ∷ pos 0 ∷ pos 1001 ∷ pos 3 ∷ pos 11 ∷ pos 0 ∷ pos 11 ∷ pos 0 ∷ pos 1 ∷ pos 101 ∷ pos 0 ∷ pos 0 ∷ pos 2001 ∷ neg 100 ∷ pos 0 ∷ pos 1001 ∷ pos 1 ∷ pos 0 ∷ pos 1 ∷ pos 0 ∷ pos 0 ∷ pos 0 ∷ pos 1501 ∷ pos 1501 ∷ pos 1073741824 ∷ pos 20 ∷ neg 1501 ∷ pos 0 ∷ pos 0 ∷ pos 5 ∷ pos 0 ∷ [];
  depths = pos 0 ∷ pos 20001 ∷ pos 41001 ∷ pos 9001 ∷ pos 9001 ∷ pos 4000 ∷ pos 17001 ∷ pos 5001 ∷ pos 8001 ∷ pos 5003 ∷ pos 2000 ∷ pos 300 ∷ pos 0 ∷ pos 0 ∷ pos 9 ∷ pos 50 ∷ pos 0 ∷ pos 11000 ∷ pos 12000 ∷ pos 16001 ∷ pos 24001 ∷ pos 18001 ∷ pos 36001 ∷ pos 36001 ∷ pos 23001 ∷ pos 35001 ∷ pos 5 ∷ pos 30 ∷ pos 90001 ∷ pos 0 ∷ pos 0 ∷ neg 5 ∷ pos 0 ∷ [];
  italics = pos 0 ∷ pos 0 ∷ pos 0 ∷ pos 0 ∷ pos 0 ∷ pos 77 ∷ pos 0 ∷ pos 0 ∷ pos 0 ∷ pos 0 ∷ pos 0 ∷ pos 9 ∷ pos 0 ∷ pos 0 ∷ pos 0 ∷ pos 11 ∷ pos 0 ∷ pos 31 ∷ pos 41 ∷ pos 0 ∷ pos 0 ∷ pos 4001 ∷ pos 7001 ∷ pos 0 ∷ pos 0 ∷ pos 0 ∷ pos 0 ∷ pos 5 ∷ pos 0 ∷ pos 0 ∷ pos 0 ∷ pos 0 ∷ pos 0 ∷ [];
  program = [];
  kerns = [];
  recipes = record { top = 3; middle = 0; bottom = 4; repeat = 5 } ∷ record { top = 7; middle = 8; bottom = 9; repeat = 10 } ∷ record { top = 0; middle = 0; bottom = 0; repeat = 11 } ∷ record { top = 14; middle = 0; bottom = 0; repeat = 15 } ∷ record { top = 0; middle = 8; bottom = 9; repeat = 10 } ∷ record { top = 14; middle = 0; bottom = 4; repeat = 27 } ∷ record { top = 27; middle = 0; bottom = 0; repeat = 5 } ∷ record { top = 0; middle = 0; bottom = 4; repeat = 32 } ∷ [];
  params = pos 0 ∷ pos 0 ∷ pos 0 ∷ pos 0 ∷ pos 0 ∷ pos 0 ∷ pos 0 ∷ pos 1501 ∷ pos 4001 ∷ pos 5003 ∷ pos 7001 ∷ pos 21001 ∷ pos 3001 ∷ [];
  skew = None;
  checksum = 0;
  design = 655360;
  at = pos 655360;
}

abbrev pub extension7 : Metrics
extension7 = record {
  first = 0;
  chars = (absent ∷ with_larger 1 2 ∷ with_larger 2 3 ∷ with_recipe 3 0 ∷ alone 4 ∷ alone 5 ∷ with_larger 6 7 ∷ with_recipe 7 1 ∷ alone 8 ∷ alone 9 ∷ alone 10 ∷ alone 11 ∷ with_recipe 12 2 ∷ with_recipe 13 3 ∷ alone 14 ∷ alone 15 ∷ with_recipe 16 4 ∷ alone 17 ∷ alone 18 ∷ with_larger 19 20 ∷ alone 20 ∷ with_larger 21 22 ∷ alone 22 ∷ with_larger 23 24 ∷ absent ∷ with_larger 24 26 ∷ alone 25 ∷ alone 26 ∷ alone 27 ∷ alone 28 ∷ with_recipe 29 5 ∷ with_recipe 30 6 ∷ alone 31 ∷ with_recipe 32 7 ∷ []);
  widths = pos 0 ∷ pos 10001 ∷ pos 12001 ∷ pos 14001 ∷ pos 14003 ∷ pos 13001 ∷ pos 8001 ∷ pos 8003 ∷ pos 8005 ∷ pos 8007 ∷ pos 7001 ∷ pos 5001 ∷ pos 5003 ∷ pos 5005 ∷ pos 5007 ∷ pos 5009 ∷ pos 5011 ∷ pos 8001 ∷ pos 8003 ∷ pos 12001 ∷ pos 20001 ∷ pos 8001 ∷ pos 9001 ∷ pos 9003 ∷ pos 10001 ∷ pos 11001 ∷ pos 11 ∷ pos 1073741820 ∷ pos 11003 ∷ pos 5013 ∷ pos 5015 ∷ pos 5017 ∷ pos 5019 ∷ [];
  heights = pos 0 ∷ pos 501 ∷ pos 1 ∷ pos 0 ∷ pos 1001 ∷ pos 3 ∷ pos 11 ∷ pos 0 ∷ pos 11 ∷ pos 0 ∷ pos 1 ∷ pos 101 ∷ pos 0 ∷ pos 0 ∷ pos 2001 ∷ neg 100 ∷ pos 0 ∷ pos 1001 ∷ pos 1 ∷ pos 0 ∷ pos 1 ∷ pos 0 ∷ pos 0 ∷ pos 0 ∷ pos 1501 ∷ pos 1501 ∷ pos 1073741824 ∷ pos 20 ∷ neg 1501 ∷ pos 0 ∷ pos 0 ∷ pos 5 ∷ pos 0 ∷ [];
  depths = pos 0 ∷ pos 20001 ∷ pos 41001 ∷ pos 9001 ∷ pos 9001 ∷ pos 4000 ∷ pos 17001 ∷ pos 5001 ∷ pos 8001 ∷ pos 5003 ∷ pos 2000 ∷ pos 300 ∷ pos 0 ∷ pos 0 ∷ pos 9 ∷ pos 50 ∷ pos 0 ∷ pos 11000 ∷ pos 12000 ∷ pos 16001 ∷ pos 24001 ∷ pos 18001 ∷ pos 36001 ∷ pos 36001 ∷ pos 23001 ∷ pos 35001 ∷ pos 5 ∷ pos 30 ∷ pos 90001 ∷ pos 0 ∷ pos 0 ∷ neg 5 ∷ pos 0 ∷ [];
  italics = pos 0 ∷ pos 0 ∷ pos 0 ∷ pos 0 ∷ pos 0 ∷ pos 77 ∷ pos 0 ∷ pos 0 ∷ pos 0 ∷ pos 0 ∷ pos 0 ∷ pos 9 ∷ pos 0 ∷ pos 0 ∷ pos 0 ∷ pos 11 ∷ pos 0 ∷ pos 31 ∷ pos 41 ∷ pos 0 ∷ pos 0 ∷ pos 4001 ∷ pos 7001 ∷ pos 0 ∷ pos 0 ∷ pos 0 ∷ pos 0 ∷ pos 5 ∷ pos 0 ∷ pos 0 ∷ pos 0 ∷ pos 0 ∷ pos 0 ∷ [];
  program = [];
  kerns = [];
  recipes = record { top = 3; middle = 0; bottom = 4; repeat = 5 } ∷ record { top = 7; middle = 8; bottom = 9; repeat = 10 } ∷ record { top = 0; middle = 0; bottom = 0; repeat = 11 } ∷ record { top = 14; middle = 0; bottom = 0; repeat = 15 } ∷ record { top = 0; middle = 8; bottom = 9; repeat = 10 } ∷ record { top = 14; middle = 0; bottom = 4; repeat = 27 } ∷ record { top = 27; middle = 0; bottom = 0; repeat = 5 } ∷ record { top = 0; middle = 0; bottom = 4; repeat = 32 } ∷ [];
  params = pos 0 ∷ pos 0 ∷ pos 0 ∷ pos 0 ∷ pos 0 ∷ pos 0 ∷ pos 0 ∷ pos 2003 ∷ pos 4001 ∷ pos 5003 ∷ pos 7001 ∷ pos 21001 ∷ pos 3001 ∷ [];
  skew = None;
  checksum = 0;
  design = 655360;
  at = pos 655360;
}

abbrev pub extension5 : Metrics
extension5 = record {
  first = 0;
  chars = (absent ∷ with_larger 1 2 ∷ with_larger 2 3 ∷ with_recipe 3 0 ∷ alone 4 ∷ alone 5 ∷ with_larger 6 7 ∷ with_recipe 7 1 ∷ alone 8 ∷ alone 9 ∷ alone 10 ∷ alone 11 ∷ with_recipe 12 2 ∷ with_recipe 13 3 ∷ alone 14 ∷ alone 15 ∷ with_recipe 16 4 ∷ alone 17 ∷ alone 18 ∷ with_larger 19 20 ∷ alone 20 ∷ with_larger 21 22 ∷ alone 22 ∷ with_larger 23 24 ∷ absent ∷ with_larger 24 26 ∷ alone 25 ∷ alone 26 ∷ alone 27 ∷ alone 28 ∷ with_recipe 29 5 ∷ with_recipe 30 6 ∷ alone 31 ∷ with_recipe 32 7 ∷ []);
  widths = pos 0 ∷ pos 10001 ∷ pos 12001 ∷ pos 14001 ∷ pos 14003 ∷ pos 13001 ∷ pos 8001 ∷ pos 8003 ∷ pos 8005 ∷ pos 8007 ∷ pos 7001 ∷ pos 5001 ∷ pos 5003 ∷ pos 5005 ∷ pos 5007 ∷ pos 5009 ∷ pos 5011 ∷ pos 8001 ∷ pos 8003 ∷ pos 12001 ∷ pos 20001 ∷ pos 8001 ∷ pos 9001 ∷ pos 9003 ∷ pos 10001 ∷ pos 11001 ∷ pos 11 ∷ pos 1073741820 ∷ pos 11003 ∷ pos 5013 ∷ pos 5015 ∷ pos 5017 ∷ pos 5019 ∷ [];
  heights = pos 0 ∷ pos 501 ∷ pos 1 ∷ pos 0 ∷ pos 1001 ∷ pos 3 ∷ pos 11 ∷ pos 0 ∷ pos 11 ∷ pos 0 ∷ pos 1 ∷ pos 101 ∷ pos 0 ∷ pos 0 ∷ pos 2001 ∷ neg 100 ∷ pos 0 ∷ pos 1001 ∷ pos 1 ∷ pos 0 ∷ pos 1 ∷ pos 0 ∷ pos 0 ∷ pos 0 ∷ pos 1501 ∷ pos 1501 ∷ pos 1073741824 ∷ pos 20 ∷ neg 1501 ∷ pos 0 ∷ pos 0 ∷ pos 5 ∷ pos 0 ∷ [];
  depths = pos 0 ∷ pos 20001 ∷ pos 41001 ∷ pos 9001 ∷ pos 9001 ∷ pos 4000 ∷ pos 17001 ∷ pos 5001 ∷ pos 8001 ∷ pos 5003 ∷ pos 2000 ∷ pos 300 ∷ pos 0 ∷ pos 0 ∷ pos 9 ∷ pos 50 ∷ pos 0 ∷ pos 11000 ∷ pos 12000 ∷ pos 16001 ∷ pos 24001 ∷ pos 18001 ∷ pos 36001 ∷ pos 36001 ∷ pos 23001 ∷ pos 35001 ∷ pos 5 ∷ pos 30 ∷ pos 90001 ∷ pos 0 ∷ pos 0 ∷ neg 5 ∷ pos 0 ∷ [];
  italics = pos 0 ∷ pos 0 ∷ pos 0 ∷ pos 0 ∷ pos 0 ∷ pos 77 ∷ pos 0 ∷ pos 0 ∷ pos 0 ∷ pos 0 ∷ pos 0 ∷ pos 9 ∷ pos 0 ∷ pos 0 ∷ pos 0 ∷ pos 11 ∷ pos 0 ∷ pos 31 ∷ pos 41 ∷ pos 0 ∷ pos 0 ∷ pos 4001 ∷ pos 7001 ∷ pos 0 ∷ pos 0 ∷ pos 0 ∷ pos 0 ∷ pos 5 ∷ pos 0 ∷ pos 0 ∷ pos 0 ∷ pos 0 ∷ pos 0 ∷ [];
  program = [];
  kerns = [];
  recipes = record { top = 3; middle = 0; bottom = 4; repeat = 5 } ∷ record { top = 7; middle = 8; bottom = 9; repeat = 10 } ∷ record { top = 0; middle = 0; bottom = 0; repeat = 11 } ∷ record { top = 14; middle = 0; bottom = 0; repeat = 15 } ∷ record { top = 0; middle = 8; bottom = 9; repeat = 10 } ∷ record { top = 14; middle = 0; bottom = 4; repeat = 27 } ∷ record { top = 27; middle = 0; bottom = 0; repeat = 5 } ∷ record { top = 0; middle = 0; bottom = 4; repeat = 32 } ∷ [];
  params = pos 0 ∷ pos 0 ∷ pos 0 ∷ pos 0 ∷ pos 0 ∷ pos 0 ∷ pos 0 ∷ neg 301 ∷ pos 4001 ∷ pos 5003 ∷ pos 7001 ∷ pos 21001 ∷ pos 3001 ∷ [];
  skew = None;
  checksum = 0;
  design = 655360;
  at = pos 655360;
}

abbrev pub odd : SetValue
odd = record {
  lines = [];
  families = record { fam = 0; fonts = Some 3 ∷ Some 3 ∷ Some 3 ∷ [] } ∷ record { fam = 1; fonts = Some 0 ∷ Some 1 ∷ Some 2 ∷ [] } ∷ record { fam = 2; fonts = Some 4 ∷ Some 5 ∷ Some 6 ∷ [] } ∷ record { fam = 3; fonts = Some 7 ∷ Some 8 ∷ Some 9 ∷ [] } ∷ record { fam = 4; fonts = Some 3 ∷ None ∷ None ∷ [] } ∷ record { fam = 5; fonts = Some 7 ∷ None ∷ Some 9 ∷ [] } ∷ [];
  fonts = letters10 ∷ letters7 ∷ letters5 ∷ roman ∷ symbols10 ∷ symbols7 ∷ symbols5 ∷ extension10 ∷ extension7 ∷ extension5 ∷ [];
}

-- the same with an axis at the limit of the range, a greater delim2, and rules out of range
abbrev pub high_symbols : Metrics
high_symbols = record symbols10 { params = pos 0 ∷ pos 0 ∷ pos 0 ∷ pos 0 ∷ pos 15003 ∷ pos 36001 ∷ pos 0 ∷ pos 25001 ∷ pos 15001 ∷ pos 17003 ∷ pos 27001 ∷ pos 13001 ∷ pos 16001 ∷ pos 14001 ∷ pos 11001 ∷ pos 6001 ∷ pos 9001 ∷ pos 14003 ∷ pos 2001 ∷ pos 90001 ∷ pos 9000003 ∷ pos 1073741823 ∷ [] }

abbrev pub thick_extension : Metrics
thick_extension = record extension10 { params = pos 0 ∷ pos 0 ∷ pos 0 ∷ pos 0 ∷ pos 0 ∷ pos 0 ∷ pos 0 ∷ pos 1073741824 ∷ pos 4001 ∷ pos 5003 ∷ pos 7001 ∷ pos 21001 ∷ pos 3001 ∷ [] }

abbrev pub thin_extension : Metrics
thin_extension = record extension5 { params = pos 0 ∷ pos 0 ∷ pos 0 ∷ pos 0 ∷ pos 0 ∷ pos 0 ∷ pos 0 ∷ neg 1073741824 ∷ pos 4001 ∷ pos 5003 ∷ pos 7001 ∷ pos 21001 ∷ pos 3001 ∷ [] }

abbrev pub wild : SetValue
wild = record {
  lines = [];
  families = record { fam = 0; fonts = Some 3 ∷ Some 3 ∷ Some 3 ∷ [] } ∷ record { fam = 1; fonts = Some 0 ∷ Some 1 ∷ Some 2 ∷ [] } ∷ record { fam = 2; fonts = Some 4 ∷ Some 5 ∷ Some 6 ∷ [] } ∷ record { fam = 3; fonts = Some 7 ∷ Some 8 ∷ Some 9 ∷ [] } ∷ record { fam = 4; fonts = Some 3 ∷ None ∷ None ∷ [] } ∷ record { fam = 5; fonts = Some 7 ∷ None ∷ Some 9 ∷ [] } ∷ [];
  fonts = letters10 ∷ letters7 ∷ letters5 ∷ roman ∷ high_symbols ∷ symbols7 ∷ symbols5 ∷ thick_extension ∷ extension7 ∷ thin_extension ∷ [];
}
