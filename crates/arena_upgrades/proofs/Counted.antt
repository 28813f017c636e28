-- Calls that are open.
use Rattle.std.proofs.Common.{◌≡◌, ℕ, suc, ◌<◌, ◌≤◌, List, [], ◌∷◌, drop, get_or, length, Bool, true, false, cond, nat_eq, refl, sym, ap, ◌∙◌, arith}
use Rattle.std.specs.Cmp.{unsigned_Decides}
use Rattle.std.proofs.Math.ListN.{drop_of_length-le}
use Rattle.std.proofs.Math.Seq.{drop-cons}
use Rattle.mo_types.specs.Calls.{count_open, is_open_state}
use Rattle.mo_meaning.specs.Coding.{Coding, Types}
use Rattle.arena_actors.specs.declared.actor.Actor.{Actor}
use Rattle.arena_actors.specs.declared.actor.Filled.{Filled}
use Rattle.arena_actors.specs.declared.actor.Filled.TheVariants as filled
use Rattle.arena_actors.specs.declared.actor.Made.{Made}
use Rattle.arena_actors.specs.States.{calls_of, state_of}
use Rattle.arena_outcomes.specs.Books.{is_open}
use Rattle.arena_upgrades.specs.Outstanding.{any_open, HasNoOpen, HasOpen}

-- ---- one call after the other

module _ (ms : List Made) (i : ℕ) (m : Made) (h : i < length ms) (read : m ≡ get_or ms i m) where
  opens : drop i ms ≡ m ∷ drop (suc i) ms
  opens = drop-cons ms i m h ∙ ap (λ (x : Made). x ∷ drop (suc i) ms) (sym read)

  pub open_here : is_open m.state ≡ true → any_open (drop i ms) ≡ true
  open_here is = ap any_open opens ∙ ap (λ (b : Bool). cond b true (any_open (drop (suc i) ms))) is

  pub open_behind : is_open m.state ≡ false → any_open (drop i ms) ≡ any_open (drop (suc i) ms)
  open_behind is = ap any_open opens ∙ ap (λ (b : Bool). cond b true (any_open (drop (suc i) ms))) is

pub open_none : (ms : List Made) (i : ℕ) → length ms ≤ i → any_open (drop i ms) ≡ false
open_none ms i h = ap any_open (drop_of_length-le ms h)

-- ---- so many of them

more_than_none : (n : ℕ) → nat_eq (suc n) 0 ≡ false
more_than_none n = by (nat_eq (suc n) 0) refl
  where
    by : (b : Bool) → nat_eq (suc n) 0 ≡ b → nat_eq (suc n) 0 ≡ false
    by false e = e
    by true e = absurd (let none : suc n ≡ 0 = (unsigned_Decides (suc n) 0).0 e in omega (arith, none))

module _ (coding : Coding) (types : Types) where
  open_so : (f : Filled) → is_open_state (state_of coding types f) ≡ is_open f
  open_so filled.Open = refl
  open_so (filled.Replied ts bytes) = refl
  open_so (filled.Rejected code text) = refl
  open_so filled.Neither = refl
  open_so filled.Lost = refl

  counted : (ms : List Made) (b : Bool) → any_open ms ≡ b → nat_eq (count_open (calls_of coding types ms)) 0 ≡ cond b false true
  counted [] true h = absurd (let e : false ≡ true = h in cc)
  counted [] false h = refl
  counted (m ∷ ms) b h = by (is_open m.state) refl h (λ k. counted ms b k)
    where
      by : (c : Bool) → is_open m.state ≡ c → cond c true (any_open ms) ≡ b → (any_open ms ≡ b → nat_eq (count_open (calls_of coding types ms)) 0 ≡ cond b false true) → nat_eq (count_open (calls_of coding types (m ∷ ms))) 0 ≡ cond b false true
      by true e k behind =
          ap (λ (d : Bool). nat_eq (cond d (suc (count_open (calls_of coding types ms))) (count_open (calls_of coding types ms))) 0) (open_so m.state ∙ e)
          ∙ more_than_none (count_open (calls_of coding types ms))
          ∙ ap (λ (d : Bool). cond d false true) k
      by false e k behind =
          ap (λ (d : Bool). nat_eq (cond d (suc (count_open (calls_of coding types ms))) (count_open (calls_of coding types ms))) 0) (open_so m.state ∙ e)
          ∙ behind k

pub has_open : (x : Actor) → any_open x.made ≡ true → HasOpen x
has_open x h = λ coding types. counted coding types x.made true h

pub has_none : (x : Actor) → any_open x.made ≡ false → HasNoOpen x
has_none x h = λ coding types. counted coding types x.made false h
