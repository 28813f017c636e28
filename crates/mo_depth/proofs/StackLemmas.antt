-- How the brackets and the `<` stand behind one token more.
use Rattle.std.proofs.Common.{◌≡◌, ℕ, suc, ◌+◌, ◌<◌, ◌≤◌, true, false, List, [], ◌∷◌, ◌++◌, length, take, get_or, below_more, refl, sym, ap, ◌∙◌, subst, arith}
use Rattle.std.proofs.Math.Seq.{take-suc}
use Rattle.std.proofs.lemmas.List.Sums.{fold-append}
use Rattle.mo_syntax.specs.declared.token.Token.{Token}
use Rattle.mo_syntax.specs.declared.mark.Mark.TheVariants as m
use Rattle.mo_depth.specs.Stack.{AreHeld, State, begin, behind_token, behind_tokens, closes, left, outside_angles, outside_from, room, room_at}

-- ---- leaving each `<`

pub none_around : (s : State) → length s.1 ≡ 0 → outside_angles s ≡ s
unfolding outside_from
none_around (inner, []) h = refl
none_around (inner, b ∷ bs) h = absurd (omega arith)

pub no_angle : (s : State) → closes s.0 m.AngleClose ≡ false → outside_angles s ≡ s
unfolding outside_from
no_angle (inner, []) h = refl
no_angle (inner, b ∷ bs) h = rw h refl

pub leave_one : (s : State) → closes s.0 m.AngleClose ≡ true → outside_angles (left s 0) ≡ outside_angles s
unfolding outside_from
leave_one (inner, []) h = refl
leave_one (inner, b ∷ bs) h = rw h refl

pub fewer : (s s' : State) (n top : ℕ) → length s.1 + n ≡ top → n < top → s' ≡ left s 0 → length s'.1 + (n + 1) ≡ top
fewer (inner, []) s' n top sum lt is = absurd (omega arith)
fewer (inner, b ∷ bs) s' n top sum lt is = rw is (omega (arith, sum))

-- ---- tokens

pub behind_none : begin ≡ behind_tokens []
unfolding behind_tokens
behind_none = refl

pub behind_more : (tokens : List Token) (n : ℕ) (x : Token) → n < length tokens → x ≡ get_or tokens n x → behind_token (behind_tokens (take n tokens)) x.kind ≡ behind_tokens (take (n + 1) tokens)
unfolding behind_tokens
behind_more tokens n x lt is =
    let more : n + 1 ≡ suc n = omega arith in
    let e : take (n + 1) tokens ≡ take n tokens ++ x ∷ [] = ap (λ z. take z tokens) more ∙ take-suc tokens n x lt ∙ ap (λ z. take n tokens ++ z ∷ []) (sym is) in
    sym (ap behind_tokens e ∙ fold-append (λ s y. behind_token s y.kind) begin (take n tokens) (x ∷ []))

pub stands_more : (tokens : List Token) (n : ℕ) (x : Token) (s s' : State) → n < length tokens → x ≡ get_or tokens n x → s ≡ behind_tokens (take n tokens) →
    s' ≡ behind_token s x.kind → s' ≡ behind_tokens (take (n + 1) tokens)
stands_more tokens n x s s' lt is stands stepped = stepped ∙ ap (λ z. behind_token z x.kind) stands ∙ behind_more tokens n x lt is

pub held_more : (tokens : List Token) (n : ℕ) (s : State) → s ≡ behind_tokens (take n tokens) → room s ≤ 1500 → AreHeld n tokens → AreHeld (n + 1) tokens
held_more tokens n s stands small first = below_more (λ i. room_at i tokens ≤ 1500) n first (subst (λ z. room z ≤ 1500) stands small)
