-- What the lexer answers.
use Rattle.std.specs.Prelude.{◌≡◌, List, [], ◌∷◌, ℕ, Result, Ok, Err, ◌⊎◌}
use Rattle.mo_syntax.specs.declared.place.Place.{Place}
use Rattle.mo_syntax.specs.declared.token.Token.{Token}
use Rattle.mo_syntax.specs.declared.token.TokenKind.{TokenKind}
use Rattle.mo_syntax.specs.declared.token.TokenKind.TheVariants as t
use Rattle.mo_lexer.specs.declared.fault.LexFault.{LexFault}
use Rattle.mo_lexer.specs.declared.fault.LexFault.TheVariants.{Memory}
use Rattle.mo_lexer.specs.declared.stop.Stop.{Stop}
use Rattle.mo_lexer.specs.declared.stop.Stop.TheVariants as stop
use Rattle.mo_lexer.specs.Faults.{Meets, Ends}

abbrev pub TextStops : List ℕ → Stop → Type 0
TextStops text (stop.Met fault) = Meets text fault
TextStops text (stop.AtEnd fault) = Ends text fault
TextStops text stop.Memory = Unit {0}

-- these tokens, unless there is no memory
abbrev pub Gives : List Token → Result (List Token) LexFault → Type 0
Gives tokens (Ok found) = found ≡ tokens
Gives tokens (Err fault) = fault ≡ Memory

-- this fault, unless there is no memory
abbrev pub Refuses : LexFault → Result (List Token) LexFault → Type 0
Refuses fault (Ok found) = ⊥
Refuses fault (Err other) = (other ≡ Memory) ⊎ (other ≡ fault)

-- a name or text is at this place
abbrev pub IsPlacedAt : Place → TokenKind → Type 0
IsPlacedAt place (t.Identifier name) = name.place ≡ place
IsPlacedAt place (t.Text text) = text.place ≡ place
IsPlacedAt place _ = Unit {0}

-- each name and text stands where its token does
abbrev pub ArePlaced : List Token → Type 0
ArePlaced [] = Unit {0}
ArePlaced (token ∷ tokens) = IsPlacedAt (record { start = token.start; «end» = token.end }) token.kind × ArePlaced tokens
