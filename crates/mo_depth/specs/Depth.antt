-- The depth at a token, taken just before it. It has one term for each bracket `( [ {` that is open there, and one for the whole text. A term is
-- 1 and a number of tokens: those that stand directly in that bracket since it opened, or since the last `;` or `,` directly in it. Of an inner
-- bracket that is closed its two marks count, and of one that is still open nothing does. A closing mark closes the innermost open bracket where
-- that is of its own kind. Any other closing mark closes nothing and counts as a token.
use Rattle.std.specs.Prelude.{◌≡◌, ℕ, ◌+◌, ◌<◌, ◌≤◌, Bool, false, if◌then◌else◌, List, [], ◌∷◌, take, fold, sum_by, Option, Some, None, slice_get}
use Rattle.mo_syntax.specs.declared.token.Token.{Token}
use Rattle.mo_syntax.specs.declared.token.TokenKind.{TokenKind}
use Rattle.mo_syntax.specs.declared.token.TokenKind.TheVariants as t
use Rattle.mo_syntax.specs.declared.mark.Mark.{Mark}
use Rattle.mo_syntax.specs.declared.mark.Mark.TheVariants as m
use Rattle.mo_parser_base.specs.Input.{same_mark}
use Rattle.mo_depth.specs.declared.frame.Frame.{Frame}
use Rattle.mo_depth.specs.declared.role.Role.{Role}
use Rattle.mo_depth.specs.declared.role.Role.TheVariants as r

-- the innermost bracket, and the others, the nearest first
abbrev pub Standing : Type 0
Standing = Frame × List Frame

abbrev pub begin : Standing
begin = (record { close = None; count = 0 }, [])

abbrev pub term : Frame → ℕ
term f = f.count + 1

abbrev pub depth : Standing → ℕ
depth s = term s.0 + sum_by term s.1

abbrev pub mark_role : Mark → Role
mark_role m.ParenOpen = r.Opens m.ParenClose
mark_role m.BracketOpen = r.Opens m.BracketClose
mark_role m.BraceOpen = r.Opens m.BraceClose
mark_role m.ParenClose = r.Closes m.ParenClose
mark_role m.BracketClose = r.Closes m.BracketClose
mark_role m.BraceClose = r.Closes m.BraceClose
mark_role m.Semicolon = r.Separates
mark_role m.Comma = r.Separates
mark_role _ = r.Other

abbrev pub role_of : TokenKind → Role
role_of (t.Mark mark) = mark_role mark
role_of _ = r.Other

abbrev pub with_count : Frame → ℕ → Frame
with_count f n = record { close = f.close; count = n }

-- a token more
abbrev pub counted : Standing → Standing
counted s = (with_count s.0 (s.0.count + 1), s.1)

abbrev pub opened : Standing → Mark → Standing
opened s close = (record { close = Some close; count = 0 }, s.0 ∷ s.1)

-- behind the innermost bracket, whose two marks count
abbrev pub left_to : Frame → List Frame → Standing
left_to inner [] = counted (inner, [])
left_to inner (f ∷ fs) = (with_count f (f.count + 2), fs)

abbrev pub left : Standing → Standing
left s = left_to s.0 s.1

abbrev pub closed_by : Option Mark → Mark → Bool
closed_by None mark = false
closed_by (Some close) mark = same_mark close mark

abbrev pub closes : Frame → Mark → Bool
closes f mark = closed_by f.close mark

abbrev pub closed : Standing → Mark → Standing
closed s mark = if closes s.0 mark then left s else counted s

abbrev pub separated : Standing → Standing
separated s = (with_count s.0 0, s.1)

abbrev pub step : Standing → Role → Standing
step s (r.Opens close) = opened s close
step s (r.Closes mark) = closed s mark
step s r.Separates = separated s
step s r.Other = counted s

-- how the brackets stand behind these tokens
unfoldable pub behind : List Token → Standing
behind tokens = fold (λ s x. step s (role_of x.kind)) begin tokens

-- the depth at the token with this number, from 0
abbrev pub depth_at : ℕ → List Token → ℕ
depth_at n tokens = depth (behind (take n tokens))

-- the depth at each of the first tokens is at most 400
abbrev pub AreShallow : ℕ → List Token → Type 0
AreShallow n tokens = (i : ℕ) → i < n → depth_at i tokens ≤ 400

-- The first token whose depth passes 400 starts there.
pub record IsDeepAt (place : ℕ) (tokens : List Token) : Type 0 where
  pub number : ℕ
  pub token : Token
  pub there : slice_get tokens number ≡ Some token
  pub starts : token.start ≡ place
  pub deep : 400 < depth_at number tokens
  pub first : AreShallow number tokens
