-- What the front end shows of names and tokens.
use Rattle.std.specs.Prelude.{◌≡◌, List, true}
use Rattle.mo_scopes.specs.declared.finding.Finding.{Finding}
use Rattle.mo_scopes.specs.declared.finding.Finding.TheVariants as finding
use Rattle.mo_syntax.specs.declared.token.TokenKind.{TokenKind}
use Rattle.mo_syntax.specs.declared.token.TokenKind.TheVariants as t
use Rattle.mo_syntax.specs.Parts.{Each}
use Rattle.mo_syntax.specs.Writing.{Writing}
use Rattle.mo_types.specs.Values.{is_method_name}

-- no rule on names is broken
abbrev pub IsNoBreach : Finding → Type 0
IsNoBreach (finding.Meaning m) = Unit {0}
IsNoBreach (finding.Breach b) = ⊥

abbrev pub NothingBroken : List Finding → Type 0
NothingBroken = Each IsNoBreach

-- an identifier is one or more visible characters of ASCII
abbrev pub IsNameToken : TokenKind → Type 0
IsNameToken (t.Identifier x) = is_method_name x.bytes ≡ true
IsNameToken _ = Unit {0}

abbrev pub AreNameTokens : Writing → Type 0
AreNameTokens = Each IsNameToken
