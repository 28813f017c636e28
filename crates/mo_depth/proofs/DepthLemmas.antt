-- How the brackets stand behind one token more.
use Rattle.std.proofs.Common.{◌≡◌, ℕ, suc, ◌+◌, ◌<◌, ◌≤◌, List, [], ◌∷◌, ◌++◌, length, take, get_or, below_more, Some, refl, sym, ap, ◌∙◌, subst, arith}
use Rattle.std.specs.Prelude.{slice_get}
use Rattle.std.proofs.lemmas.Option.{slice_get-get_or}
use Rattle.std.proofs.Math.Seq.{take-suc}
use Rattle.std.proofs.lemmas.List.Sums.{fold-append}
use Rattle.mo_syntax.specs.declared.token.Token.{Token}
use Rattle.mo_depth.specs.declared.role.Role.{Role}
use Rattle.mo_depth.specs.Depth.{Standing, AreShallow, IsDeepAt, behind, begin, depth, depth_at, step, role_of}

pub behind_none : begin ≡ behind []
unfolding behind
behind_none = refl

pub behind_more : (tokens : List Token) (n : ℕ) (x : Token) → n < length tokens → x ≡ get_or tokens n x → step (behind (take n tokens)) (role_of x.kind) ≡ behind (take (n + 1) tokens)
unfolding behind
behind_more tokens n x lt is =
    let more : n + 1 ≡ suc n = omega arith in
    let e : take (n + 1) tokens ≡ take n tokens ++ x ∷ [] = ap (λ z. take z tokens) more ∙ take-suc tokens n x lt ∙ ap (λ z. take n tokens ++ z ∷ []) (sym is) in
    sym (ap behind e ∙ fold-append (λ s y. step s (role_of y.kind)) begin (take n tokens) (x ∷ []))

pub there : (tokens : List Token) (n : ℕ) (x : Token) → n < length tokens → x ≡ get_or tokens n x → slice_get tokens n ≡ Some x
there tokens n x lt is = slice_get-get_or tokens n x lt ∙ ap (λ z. Some z) (sym is)

pub is_deep : (tokens : List Token) (n : ℕ) (x : Token) (s : Standing) → n < length tokens → x ≡ get_or tokens n x → s ≡ behind (take n tokens) → 400 < depth s → AreShallow n tokens → IsDeepAt x.start tokens
is_deep tokens n x s lt is stands deep first = record { number = n; token = x; there = there tokens n x lt is; starts = refl; deep = subst (λ z. 400 < depth z) stands deep; first = first }

pub shallow_more : (tokens : List Token) (n : ℕ) (s : Standing) → s ≡ behind (take n tokens) → depth s ≤ 400 → AreShallow n tokens → AreShallow (n + 1) tokens
shallow_more tokens n s stands small first = below_more (λ i. depth_at i tokens ≤ 400) n first (subst (λ z. depth z ≤ 400) stands small)

pub stands_more : (tokens : List Token) (n : ℕ) (x : Token) (s s' : Standing) (role : Role) → n < length tokens → x ≡ get_or tokens n x → s ≡ behind (take n tokens) →
    role ≡ role_of x.kind → s' ≡ step s role → s' ≡ behind (take (n + 1) tokens)
stands_more tokens n x s s' role lt is stands role_is stepped =
    stepped ∙ ap (λ z. step z role) stands ∙ ap (λ z. step (behind (take n tokens)) z) role_is ∙ behind_more tokens n x lt is
