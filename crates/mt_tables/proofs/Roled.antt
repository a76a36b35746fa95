-- Roles of names.
use Rattle.std.proofs.Common.{◌≡◌, ℕ, zero, suc, List, [], ◌∷◌, ◌++◌, length, sym, ap, ◌∙◌}
use Rattle.std.specs.Prelude.{Some, slice_get, unwrap_or}
use Rattle.mt_lexicon.specs.Meaning.{NameTable, Extends}
use Rattle.mt_scan.specs.declared.role.Role.{Role}
use Rattle.mt_tables.specs.inner.NameRoles.{AreRoles, role_of_name, role_numbered}

roles_append : (rs : List Role) (ns more : NameTable) → AreRoles rs ns → AreRoles rs (ns ++ more)
roles_append [] ns more h = tt
roles_append (r ∷ rs) [] more h = absurd h
roles_append (r ∷ rs) (n ∷ ns) more h = (h.0, roles_append rs ns more h.1)

pub roles_kept : (rs : List Role) (old new : NameTable) → Extends old new → AreRoles rs old → AreRoles rs new
roles_kept rs old new e h = rw e.1 (roles_append rs old e.0 h)

some_is : {X : Type 0} (s r : X) → Some s ≡ Some r → s ≡ r
some_is s r e = ap (λ o. unwrap_or o s) e

pub roles_more : (rs : List Role) (ns : NameTable) (name : List ℕ) (r : Role) → AreRoles rs ns → slice_get ns (length rs) ≡ Some name → r ≡ role_of_name name → AreRoles (rs ++ r ∷ []) ns
roles_more [] [] name r h l e = absurd (cc)
roles_more [] (n ∷ ns) name r h l e = (e ∙ ap role_of_name (sym (some_is n name l)), tt)
roles_more (s ∷ rs) [] name r h l e = absurd h
roles_more (s ∷ rs) (n ∷ ns) name r h l e = (h.0, roles_more rs ns name r h.1 l e)

pub role_found : (rs : List Role) (ns : NameTable) (i : ℕ) (r : Role) → AreRoles rs ns → slice_get rs i ≡ Some r → r ≡ role_numbered ns i
role_found [] ns i r h e = absurd (cc)
role_found (s ∷ rs) [] i r h e = absurd h
role_found (s ∷ rs) (n ∷ ns) zero r h e = sym (some_is s r e) ∙ h.0
role_found (s ∷ rs) (n ∷ ns) (suc i) r h e = role_found rs ns i r h.1 e

pub roles_none : (rs : List Role) (ns : NameTable) → rs ≡ [] → AreRoles rs ns
roles_none rs ns e = rw e tt
