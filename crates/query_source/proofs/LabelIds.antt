-- The id of a label, a byte at a time; and methods of different ids have different names.
use Rattle.std.proofs.Common.{◌≡◌, ◌≢◌, ℕ, ◌+◌, ◌*◌, ◌<◌, ◌^◌, ◌%◌, List, [], ◌∷◌, ◌++◌, length, ap, sym, ◌∙◌, arith, take, get_or, length-append, add-one, mul_assoc}
use Rattle.std.specs.List.{AllPairs}
use Rattle.std.proofs.Math.Nat.{pow-suc}
use Rattle.std.proofs.lemmas.List.{take_more}
use Rattle.query_source.specs.declared.query.Method.{Method}
use Rattle.query_source.specs.Labels.{label_sum, label_id}

times_power : (b n : ℕ) → b * 223 ^ (n + 1) ≡ b * 223 ^ n * 223
times_power b n = ap (λ k. b * 223 ^ k) (add-one n) ∙ ap (λ p. b * p) (pow-suc 223 n) ∙ sym (mul_assoc b (223 ^ n) 223)

label_sum-push : (name : List ℕ) (b : ℕ) → label_sum (name ++ b ∷ []) ≡ label_sum name * 223 + b
label_sum-push [] b = omega arith
label_sum-push (a ∷ bs) b =
    let rest : label_sum (bs ++ b ∷ []) ≡ label_sum bs * 223 + b = label_sum-push bs b in
    let len : length (bs ++ b ∷ []) ≡ length bs + 1 = length-append bs (b ∷ []) in
    let first : a * 223 ^ length (bs ++ b ∷ []) ≡ a * 223 ^ length bs * 223 = ap (λ k. a * 223 ^ k) len ∙ times_power a (length bs) in
    omega arith

step : (sum byte : ℕ) → (sum % 2 ^ 32 * 223 + byte) % 2 ^ 32 ≡ (sum * 223 + byte) % 2 ^ 32
step sum byte = omega arith

pub label_id-more : (name : List ℕ) (i d id : ℕ) → i < length name → id ≡ label_id (take i name) → (id * 223 + get_or name i d) % 2 ^ 32 ≡ label_id (take (i + 1) name)
label_id-more name i d id h e =
    ap (λ k. (k * 223 + get_or name i d) % 2 ^ 32) e ∙ step (label_sum (take i name)) (get_or name i d)
    ∙ ap (λ k. k % 2 ^ 32) (sym (ap label_sum (take_more name i d h) ∙ label_sum-push (take i name) (get_or name i d)))

-- One name has one id.
pub names_differ : (methods : List Method) → AllPairs (λ m n. label_id m.name ≢ label_id n.name) methods → AllPairs (λ m n. m.name ≢ n.name) methods
names_differ methods h = λ i j d lt len e. h i j d lt len (ap label_id e)

-- The ids of the first methods differ; the ids of the first methods differ from the one at the place.
abbrev pub DifferBelow : List Method → ℕ → Type 0
DifferBelow methods high = (i j : ℕ) (d : Method) → i < j → j < high → label_id (get_or methods i d).name ≢ label_id (get_or methods j d).name

abbrev pub DiffersFrom : List Method → ℕ → ℕ → Type 0
DiffersFrom methods high place = (i : ℕ) (d : Method) → i < high → label_id (get_or methods i d).name ≢ label_id (get_or methods place d).name
