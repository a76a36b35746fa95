-- The kind of a token whose name is lent, as a kind of the definitions.
use Rattle.mt_token.specs.declared.token.TokenKind.{TokenKind}
use Rattle.mt_token.specs.declared.token.TokenKind.TheVariants.{Control, Char, Space}
use Rattle.mt_token.specs.declared.lent.LentKind.{LentKind}
use Rattle.mt_token.specs.declared.lent.LentKind.TheVariants.{Control as LentControl, Char as LentChar, Space as LentSpace}

-- the kind with a name of its own, of the same bytes
abbrev pub owned_kind : LentKind → TokenKind
owned_kind (LentControl name) = Control name.now
owned_kind (LentChar c) = Char c
owned_kind LentSpace = Space
