-- The pieces of pre and of a definition, appended one after another (`define_joined` and the others).
use Rattle.std.proofs.Common.{◌≡◌, ℕ, ◌+◌, ◌≤◌, List, [], ◌∷◌, ◌++◌, length, ap, length-append, arith}
use Rattle.std.specs.Prelude.{ℤ}
use Rattle.mt_dvi.specs.Opcodes.{fnt_def1, pre}
use Rattle.mt_dvi.specs.Codes.{four_bytes}
use Rattle.mt_dvi.specs.Encoded.{definition_bytes, pre_bytes, scale_bytes, signed_bytes}
use Rattle.mt_dvi.proofs.CodeLemmas.{appends_2}

pub define_joined : (o0 o1 o2 o3 o4 o5 o6 : List ℕ) (n checksum size design : ℕ) (name : List ℕ) → o1 ≡ o0 ++ fnt_def1 ∷ n ∷ [] → o2 ≡ o1 ++ four_bytes checksum → o3 ≡ o2 ++ four_bytes size → o4 ≡ o3 ++ four_bytes design
    → o5 ≡ o4 ++ 0 ∷ length name ∷ [] → o6 ≡ o5 ++ name
    → o6 ≡ o0 ++ definition_bytes (record { number = n; checksum = checksum; size = size; design = design; area = []; name = name })
define_joined o0 o1 o2 o3 o4 o5 o6 n checksum size design name e1 e2 e3 e4 e5 e6 =
    let a1 = fnt_def1 ∷ n ∷ [] in
    let a2 = a1 ++ four_bytes checksum in
    let a3 = a2 ++ four_bytes size in
    let a4 = a3 ++ four_bytes design in
    let s2 = appends_2 o0 o1 o2 a1 (four_bytes checksum) e1 e2 in
    let s3 = appends_2 o0 o2 o3 a2 (four_bytes size) s2 e3 in
    let s4 = appends_2 o0 o3 o4 a3 (four_bytes design) s3 e4 in
    let s5 = appends_2 o0 o4 o5 a4 (0 ∷ length name ∷ []) s4 e5 in
    appends_2 o0 o5 o6 (a4 ++ 0 ∷ length name ∷ []) name s5 e6

pub scale_joined : (o0 o1 o2 o3 : List ℕ) (mag : ℤ) → o1 ≡ o0 ++ four_bytes 25400000 → o2 ≡ o1 ++ four_bytes 473628672 → o3 ≡ o2 ++ signed_bytes mag → o3 ≡ o0 ++ scale_bytes mag
scale_joined o0 o1 o2 o3 mag e1 e2 e3 =
    appends_2 o0 o2 o3 (four_bytes 25400000 ++ four_bytes 473628672) (signed_bytes mag) (appends_2 o0 o1 o2 (four_bytes 25400000) (four_bytes 473628672) e1 e2) e3

pub pre_joined : (o0 o1 o2 o3 : List ℕ) (mag : ℤ) → o1 ≡ o0 ++ pre ∷ 2 ∷ [] → o2 ≡ o1 ++ scale_bytes mag → o3 ≡ o2 ++ 0 ∷ [] → o3 ≡ o0 ++ pre_bytes mag
pre_joined o0 o1 o2 o3 mag e1 e2 e3 =
    appends_2 o0 o2 o3 ((pre ∷ 2 ∷ []) ++ scale_bytes mag) (0 ∷ []) (appends_2 o0 o1 o2 (pre ∷ 2 ∷ []) (scale_bytes mag) e1 e2) e3

pub define_short : (o0 o6 : List ℕ) (n checksum size design : ℕ) (name : List ℕ) → length name ≤ 64 → o6 ≡ o0 ++ definition_bytes (record { number = n; checksum = checksum; size = size; design = design; area = []; name = name })
    → length o6 ≤ length o0 + 80
define_short o0 o6 n checksum size design name short is =
    omega (arith, short, ap length is, length-append o0 (definition_bytes (record { number = n; checksum = checksum; size = size; design = design; area = []; name = name })))
