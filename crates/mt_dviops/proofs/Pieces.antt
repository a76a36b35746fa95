-- The pieces of post, appended one after another (`post_joined`).
use Rattle.std.proofs.Common.{◌≡◌, ℕ, List, [], ◌∷◌, ◌++◌}
use Rattle.std.specs.Prelude.{ℤ}
use Rattle.mt_dvi.specs.Opcodes.{post}
use Rattle.mt_dvi.specs.Codes.{four_bytes}
use Rattle.mt_dvi.specs.Encoded.{scale_bytes, signed_bytes, two_bytes}
use Rattle.mt_dvi.proofs.CodeLemmas.{appends_2}
use Rattle.mt_dviops.specs.Result.{post_of}

pub post_joined : (o0 o1 o2 o3 o4 o5 o6 o7 : List ℕ) (mag last : ℤ) (tallest widest depth count : ℕ) → o1 ≡ o0 ++ post ∷ [] → o2 ≡ o1 ++ signed_bytes last → o3 ≡ o2 ++ scale_bytes mag → o4 ≡ o3 ++ four_bytes tallest
    → o5 ≡ o4 ++ four_bytes widest → o6 ≡ o5 ++ two_bytes depth → o7 ≡ o6 ++ two_bytes count → o7 ≡ o0 ++ post_of mag last tallest widest depth count
post_joined o0 o1 o2 o3 o4 o5 o6 o7 mag last tallest widest depth count e1 e2 e3 e4 e5 e6 e7 =
    let a1 = post ∷ [] in
    let a2 = a1 ++ signed_bytes last in
    let a3 = a2 ++ scale_bytes mag in
    let a4 = a3 ++ four_bytes tallest in
    let a5 = a4 ++ four_bytes widest in
    let a6 = a5 ++ two_bytes depth in
    let s2 = appends_2 o0 o1 o2 a1 (signed_bytes last) e1 e2 in
    let s3 = appends_2 o0 o2 o3 a2 (scale_bytes mag) s2 e3 in
    let s4 = appends_2 o0 o3 o4 a3 (four_bytes tallest) s3 e4 in
    let s5 = appends_2 o0 o4 o5 a4 (four_bytes widest) s4 e5 in
    let s6 = appends_2 o0 o5 o6 a5 (two_bytes depth) s5 e6 in
    appends_2 o0 o6 o7 a6 (two_bytes count) s6 e7
