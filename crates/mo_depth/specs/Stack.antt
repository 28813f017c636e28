-- The room on the native stack that the reading of tokens and the calls over their tree may take. Each construct takes some while it is open, and
-- each around it does too. Two is for one in which the parser calls itself for what stands in it. One is for one that goes on behind its first
-- operand, since a loop of the parser reads it, and only the calls over the tree nest: the operators of two operands but `-`, which may be a sign, a
-- `:`, and what an operand goes on with, `.`, `!`, calls and indexes. A `=` takes one too, and names, literals and `_` take none.
--
-- What stands behind a closing mark may hold its bracket. So a bracket has sums of what began in it, of its last operand, and the most of the operands
-- before that, and of what separators ended. The `<` of types opens a bracket too, which its `>` closes. A `;` and the closing marks `) ] }` leave
-- each `<` that stands open in the innermost other bracket, since none of them stands directly inside `< >`.
use Rattle.std.specs.Prelude.{ℕ, ◌+◌, ◌<◌, ◌≤◌, max, Bool, true, false, if◌then◌else◌, List, [], ◌∷◌, take, fold, sum_by, Some, None}
use Rattle.mo_syntax.specs.declared.token.Token.{Token}
use Rattle.mo_syntax.specs.declared.token.TokenKind.{TokenKind}
use Rattle.mo_syntax.specs.declared.token.TokenKind.TheVariants as t
use Rattle.mo_syntax.specs.declared.mark.Mark.{Mark}
use Rattle.mo_syntax.specs.declared.mark.Mark.TheVariants as m
use Rattle.mo_syntax.specs.declared.word.Word.{Word}
use Rattle.mo_syntax.specs.declared.word.Word.TheVariants as w
use Rattle.mo_depth.specs.Depth.{closed_by}
use Rattle.mo_depth.specs.declared.bracket.Bracket.{Bracket}
use Rattle.mo_depth.specs.declared.effect.Effect.{Effect}
use Rattle.mo_depth.specs.declared.effect.Effect.TheVariants as e

-- ---- what a token does

abbrev pub effect_of_word : Word → Effect
effect_of_word w.True = e.Nothing
effect_of_word w.False = e.Nothing
effect_of_word w.Null = e.Nothing
effect_of_word w.And = e.Begins 1
effect_of_word w.Or = e.Begins 1
effect_of_word _ = e.Begins 2

abbrev pub room_of_mark : Mark → ℕ
room_of_mark m.Plus = 1
room_of_mark m.Star = 1
room_of_mark m.Slash = 1
room_of_mark m.Percent = 1
room_of_mark m.Power = 1
room_of_mark m.PlusWrap = 1
room_of_mark m.MinusWrap = 1
room_of_mark m.StarWrap = 1
room_of_mark m.Concat = 1
room_of_mark m.Equal = 1
room_of_mark m.NotEqual = 1
room_of_mark m.Less = 1
room_of_mark m.Greater = 1
room_of_mark m.LessEqual = 1
room_of_mark m.GreaterEqual = 1
room_of_mark m.EqualSign = 1
room_of_mark m.Colon = 1
room_of_mark _ = 2

abbrev pub effect_of_mark : Mark → Effect
effect_of_mark m.ParenOpen = e.Opens m.ParenClose
effect_of_mark m.BracketOpen = e.Opens m.BracketClose
effect_of_mark m.BraceOpen = e.Opens m.BraceClose
effect_of_mark m.AngleOpen = e.Opens m.AngleClose
effect_of_mark m.ParenClose = e.Closes m.ParenClose
effect_of_mark m.BracketClose = e.Closes m.BracketClose
effect_of_mark m.BraceClose = e.Closes m.BraceClose
effect_of_mark m.AngleClose = e.Closes m.AngleClose
effect_of_mark m.Semicolon = e.Separates
effect_of_mark m.Comma = e.Separates
effect_of_mark m.Dot = e.GoesOn
effect_of_mark m.Bang = e.GoesOn
effect_of_mark m.Underscore = e.Nothing
effect_of_mark mark = e.Begins (room_of_mark mark)

abbrev pub effect_of : TokenKind → Effect
effect_of (t.Mark mark) = effect_of_mark mark
effect_of (t.Reserved word) = effect_of_word word
effect_of _ = e.Nothing

-- no construct takes more than two
abbrev pub IsSmall : Effect → Type 0
IsSmall (e.Begins n) = n ≤ 2
IsSmall _ = Unit {0}

-- what an operand that goes on with a bracket takes beside it: one, as it may be a call or an index
abbrev pub room_behind : Mark → ℕ
room_behind m.ParenClose = 1
room_behind m.BracketClose = 1
room_behind _ = 0

abbrev pub ends_angles : TokenKind → Bool
ends_angles (t.Mark m.Semicolon) = true
ends_angles (t.Mark m.ParenClose) = true
ends_angles (t.Mark m.BracketClose) = true
ends_angles (t.Mark m.BraceClose) = true
ends_angles _ = false

-- ---- brackets

-- the innermost bracket, and the others, the nearest first
abbrev pub State : Type 0
State = Bracket × List Bracket

abbrev pub begin : State
begin = (record { close = None; begun = 0; operand = 0; operands = 0; ended = 0 }, [])

-- the most that a part of the bracket takes
abbrev pub most : Bracket → ℕ
most b = max b.ended (b.begun + max b.operands b.operand)

-- what a bracket takes that stands around another one
abbrev pub outside : Bracket → ℕ
outside b = b.begun + 2

abbrev pub room : State → ℕ
room s = sum_by outside s.1 + most s.0

abbrev pub closes : Bracket → Mark → Bool
closes b mark = closed_by b.close mark

abbrev pub opened : State → Mark → State
opened s close = (record { close = Some close; begun = 0; operand = 0; operands = 0; ended = 0 }, s.0 ∷ s.1)

abbrev pub begun : State → ℕ → State
begun s n = (record { close = s.0.close; begun = s.0.begun + n; operand = 0; operands = max s.0.operands s.0.operand; ended = s.0.ended }, s.1)

abbrev pub gone_on : State → State
gone_on s = (record { close = s.0.close; begun = s.0.begun; operand = s.0.operand + 1; operands = s.0.operands; ended = s.0.ended }, s.1)

abbrev pub separated : State → State
separated s = (record { close = s.0.close; begun = 0; operand = 0; operands = 0; ended = most s.0 }, s.1)

-- a bracket, behind one that was closed in it
abbrev pub around : Bracket → Bracket → ℕ → Bracket
around b inner n = record { close = b.close; begun = b.begun; operand = max b.operand (most inner + 2) + n; operands = b.operands; ended = b.ended }

abbrev pub left_to : Bracket → List Bracket → ℕ → State
left_to inner [] n = (inner, [])
left_to inner (b ∷ bs) n = (around b inner n, bs)

-- behind the innermost bracket
abbrev pub left : State → ℕ → State
left s n = left_to s.0 s.1 n

abbrev pub closed : State → Mark → State
closed s mark = if closes s.0 mark then left s (room_behind mark) else begun s 2

abbrev pub step : State → Effect → State
step s (e.Opens close) = opened s close
step s (e.Closes mark) = closed s mark
step s e.Separates = separated s
step s (e.Begins n) = begun s n
step s e.GoesOn = gone_on s
step s e.Nothing = s

unfoldable pub outside_from : Bracket → List Bracket → State
outside_from inner [] = (inner, [])
outside_from inner (b ∷ bs) = if closes inner m.AngleClose then outside_from (around b inner 0) bs else (inner, b ∷ bs)

-- behind each `<` up to the innermost other bracket
abbrev pub outside_angles : State → State
outside_angles s = outside_from s.0 s.1

abbrev pub before_mark : State → TokenKind → State
before_mark s kind = if ends_angles kind then outside_angles s else s

abbrev pub behind_token : State → TokenKind → State
behind_token s kind = step (before_mark s kind) (effect_of kind)

-- how the brackets stand behind these tokens
unfoldable pub behind_tokens : List Token → State
behind_tokens tokens = fold (λ s x. behind_token s x.kind) begin tokens

-- the room that may be taken at the token with this number, from 0, just before it
abbrev pub room_at : ℕ → List Token → ℕ
room_at n tokens = room (behind_tokens (take n tokens))

-- at each of the first tokens it is at most 1,500
abbrev pub AreHeld : ℕ → List Token → Type 0
AreHeld n tokens = (i : ℕ) → i < n → room_at i tokens ≤ 1500
