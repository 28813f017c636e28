-- The text of a marked line, piece by piece.
use Rattle.std.proofs.Common.{◌≡◌, ℕ, List, [], ◌∷◌, ◌++◌, ap, ◌∙◌}
use Rattle.std.proofs.lemmas.List.{append_assoc}

behind : (o p x rest : List ℕ) → p ≡ o ++ x → p ++ rest ≡ o ++ (x ++ rest)
behind o p x rest e = ap (λ l. l ++ rest) e ∙ append_assoc o x rest

pub put_together : (o first line last end front pads mark text a b c d e : List ℕ) → o ≡ [] → first ≡ o ++ a → line ≡ first ++ b → last ≡ line ++ c → end ≡ last ++ 10 ∷ [] → front ≡ end ++ d → pads ≡ front ++ e → mark ≡ pads ++ 94 ∷ []
    → text ≡ mark ++ 10 ∷ [] → text ≡ a ++ (b ++ (c ++ (10 ∷ (d ++ (e ++ 94 ∷ 10 ∷ [])))))
put_together o first line last end front pads mark text a b c d e o_is first_is line_is last_is end_is front_is pads_is mark_is text_is =
    text_is ∙ behind pads mark (94 ∷ []) (10 ∷ []) mark_is ∙ behind front pads e (94 ∷ 10 ∷ []) pads_is ∙ behind end front d (e ++ 94 ∷ 10 ∷ []) front_is ∙ behind last end (10 ∷ []) (d ++ (e ++ 94 ∷ 10 ∷ [])) end_is
    ∙ behind line last c (10 ∷ (d ++ (e ++ 94 ∷ 10 ∷ []))) last_is ∙ behind first line b (c ++ (10 ∷ (d ++ (e ++ 94 ∷ 10 ∷ [])))) line_is ∙ behind o first a (b ++ (c ++ (10 ∷ (d ++ (e ++ 94 ∷ 10 ∷ []))))) first_is
    ∙ ap (λ l. l ++ (a ++ (b ++ (c ++ (10 ∷ (d ++ (e ++ 94 ∷ 10 ∷ []))))))) o_is
