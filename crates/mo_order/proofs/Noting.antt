-- What stands at a name once functions are added there.
use Rattle.std.proofs.Common.{◌≡◌, ℕ, Bool, true, false, List, [], ◌++◌, cond, refl, sym, ap, ◌∙◌, Result, Ok, Err, OnOk, append-nil}
use Rattle.std.specs.Str.{bytes_eq}
use Rattle.std.proofs.lemmas.Slice.Eq.{bytes_eq-Decides}
use Rattle.mo_scopes.specs.Findings.{Texts}

chosen : (b : Bool) (old here more : Texts) → (b ≡ true → here ≡ old) → cond b (here ++ more) (cond b [] old) ≡ old ++ cond b more []
chosen true old here more e = ap (λ t. t ++ more) (e refl)
chosen false old here more e = sym (append-nil old)

pub same_bytes : (x y : List ℕ) → bytes_eq x y ≡ true → x ≡ y
same_bytes x y h = (bytes_eq-Decides x y).0 h

-- where what stood at the key was taken away, and put back with more
pub added : {A E : Type 0} (r : Result A E) (key name x : List ℕ) (old mid new here put more : Texts) → key ≡ name → put ≡ here ++ more → (bytes_eq key x ≡ true → here ≡ old)
    → mid ≡ cond (bytes_eq key x) [] old → OnOk r (new ≡ cond (bytes_eq key x) put mid) → OnOk r (new ≡ old ++ cond (bytes_eq name x) more [])
added (Ok a) key name x old mid new here put more k p e m n =
    n ∙ (ap (λ t. cond (bytes_eq key x) t mid) p ∙ (ap (λ t. cond (bytes_eq key x) (here ++ more) t) m
    ∙ (chosen (bytes_eq key x) old here more e ∙ ap (λ z. old ++ cond (bytes_eq z x) more []) k)))
added (Err a) key name x old mid new here put more k p e m n = tt
