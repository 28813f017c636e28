-- The run of an actor is the only one: its methods and the events determine each item.
use Rattle.std.proofs.Common.{◌≡◌, ◌≢◌, ℕ, ◌<◌, ◌≤◌, ◌^◌, List, [], ◌∷◌, ◌++◌, length, Bool, true, false, ap, sym, ◌∙◌, subst, arith, inl, inr, zero, suc, codes}
use Rattle.std.specs.Prelude.{Contains}
use Rattle.std.specs.List.{AllByRecursion, AllPairs}
use Rattle.mo_num.specs.Leb.{IsLeb}
use Rattle.query_source.specs.Words.{IsName}
use Rattle.query_source.specs.declared.query.Method.{Method}
use Rattle.play_script.specs.declared.event.Event.{Event}
use Rattle.play_script.specs.declared.event.Event.TheVariants as event
use Rattle.play_script.specs.declared.item.Item.{Item}
use Rattle.play_script.specs.declared.item.Item.TheVariants as item
use Rattle.query_module.specs.Message.{IsNatMessage}
use Rattle.query_module.specs.ActorRun.{IsMethodOf, IsResume, IsAnswer, IsItemOf, number_after, AreAnswers, IsRunOf}
use Rattle.query_module.specs.Answers.{AreQueries}

-- Names are letters, so that no method is `__resume`.

is_named : (methods : List Method) → AllByRecursion (λ m. IsName m.name × (m.number < 2 ^ 63)) methods → (m : Method) → Contains methods m → IsName m.name
is_named [] named m (k, low, at) = absurd (omega arith)
is_named (x ∷ methods) named m (zero, low, at) = subst (λ y. IsName y.name) at named.0.0
is_named (x ∷ methods) named m (suc k, low, at) = is_named methods named.1 m (k, omega arith, at)

pub apart : (methods : List Method) → AreQueries methods → (query : Bool) (name : List ℕ) (m : Method) → IsMethodOf methods name m → IsResume query name → ⊥
apart methods queries query name m is resume =
    let letters : IsName (codes "__resume") = subst IsName (is.1 ∙ resume.1) (is_named methods queries.named m is.0) in
    let first : false ≡ true = letters.letters.0 in
    absurd (cc)

one_method : (methods : List Method) → AllPairs (λ m n. m.name ≢ n.name) methods → (name : List ℕ) (a b : Method) → IsMethodOf methods name a → IsMethodOf methods name b → a ≡ b
one_method [] differ name a b ((k, low, at), is) other = absurd (omega arith)
one_method (m ∷ methods) differ name a b ((zero, low, at), is) ((zero, less, there), same) = sym at ∙ there
one_method (m ∷ methods) differ name a b ((zero, low, at), is) ((suc j, less, there), same) =
    absurd (differ 0 (suc j) b (omega arith) less (ap (λ x. x.name) at ∙ is ∙ sym same ∙ sym (ap (λ x. x.name) there)))
one_method (m ∷ methods) differ name a b ((suc k, low, at), is) ((zero, less, there), same) =
    absurd (differ 0 (suc k) a (omega arith) low (ap (λ x. x.name) there ∙ same ∙ sym is ∙ sym (ap (λ x. x.name) at)))
one_method (m ∷ methods) differ name a b ((suc k, low, at), is) ((suc j, less, there), same) =
    one_method methods (λ i j d before within. differ (suc i) (suc j) d (omega arith) (omega arith)) name a b ((k, omega arith, at), is) ((j, omega arith, there), same)

-- One message for each number.

leb_one : (xs ys : List ℕ) (n : ℕ) → length xs ≡ length ys → IsLeb xs n → IsLeb ys n → xs ≡ ys
leb_one [] ys n same h k = absurd h
leb_one (x ∷ xs) [] n same h k = absurd k
leb_one (x ∷ []) (y ∷ []) n same h k = ap (λ b. b ∷ []) (sym h.1 ∙ k.1)
leb_one (x ∷ []) (y ∷ v ∷ ys) n same h k = absurd (omega arith)
leb_one (x ∷ u ∷ xs) (y ∷ []) n same h k = absurd (omega arith)
leb_one (x ∷ u ∷ xs) (y ∷ v ∷ ys) n same h k =
    let low : x ≡ y = omega (arith, h.0, h.1, h.3, k.0, k.1, k.3) in
    let high : k.2 ≡ h.2 = omega (arith, h.0, h.1, h.3, k.0, k.1, k.3) in
    let rest : u ∷ xs ≡ v ∷ ys = leb_one (u ∷ xs) (v ∷ ys) h.2 (omega arith) h.4 (subst (IsLeb (v ∷ ys)) high k.4) in
    ap (λ b. b ∷ u ∷ xs) low ∙ ap (λ bs. y ∷ bs) rest

message_one : (n : ℕ) (a b : List ℕ) → IsNatMessage n a → IsNatMessage n b → a ≡ b
message_one n a b x y =
    let less : length x.digits ≤ length y.digits = x.spelled.least y.digits y.spelled.spells in
    let more : length y.digits ≤ length x.digits = y.spelled.least x.digits x.spelled.spells in
    x.whole ∙ ap (λ d. codes "DIDL" ++ 0x00 ∷ 0x01 ∷ 0x7d ∷ d) (leb_one x.digits y.digits n (omega arith) x.spelled.spells y.spelled.spells) ∙ sym y.whole

answer_one : (methods : List Method) → AreQueries methods → (number : ℕ) (query : Bool) (name : List ℕ) (a b : Item) → IsAnswer methods number query name a → IsAnswer methods number query name b → a ≡ b
answer_one methods queries number query name a b (inl x) (inl y) =
    let same : y.0 ≡ x.0 = one_method methods queries.differ name y.0 x.0 y.1 x.1 in
    let bytes : x.2 ≡ y.2 = message_one x.0.number x.2 y.2 x.3 (subst (λ m. IsNatMessage m.number y.2) same y.3) in
    x.4 ∙ ap (λ r. item.Replied number r) bytes ∙ sym y.4
answer_one methods queries number query name a b (inl x) (inr (inl y)) = absurd (apart methods queries query name x.0 x.1 y.0)
answer_one methods queries number query name a b (inl x) (inr (inr y)) = absurd (y.0 x.0 x.1)
answer_one methods queries number query name a b (inr (inl x)) (inl y) = absurd (apart methods queries query name y.0 y.1 x.0)
answer_one methods queries number query name a b (inr (inl x)) (inr (inl y)) = x.1 ∙ sym y.1
answer_one methods queries number query name a b (inr (inl x)) (inr (inr y)) = absurd (y.1 x.0)
answer_one methods queries number query name a b (inr (inr x)) (inl y) = absurd (x.0 y.0 y.1)
answer_one methods queries number query name a b (inr (inr x)) (inr (inl y)) = absurd (x.1 y.0)
answer_one methods queries number query name a b (inr (inr x)) (inr (inr y)) = x.2 ∙ sym y.2

item_one : (methods : List Method) → AreQueries methods → (number : ℕ) (e : Event) (a b : Item) → IsItemOf methods number e a → IsItemOf methods number e b → a ≡ b
item_one methods queries number (event.Install place) a b x y = absurd x
item_one methods queries number (event.Call query name caller bytes) a b x y = answer_one methods queries number query name a b x y
item_one methods queries number (event.Reply call bytes) a b x y = x ∙ sym y
item_one methods queries number (event.Reject call code text) a b x y = x ∙ sym y
item_one methods queries number (event.Upgrade place) a b x y = absurd x

answers_one : (methods : List Method) → AreQueries methods → (number : ℕ) (events : List Event) (p q : List Item) → AreAnswers methods number events p → AreAnswers methods number events q → p ≡ q
answers_one methods queries number [] p q x y = x ∙ sym y
answers_one methods queries number (e ∷ events) p q x y =
    x.2 ∙ ap (λ i. i ∷ x.1) (item_one methods queries number e x.0 y.0 x.3 y.3) ∙ ap (λ is. y.0 ∷ is) (answers_one methods queries (number_after number e) events x.1 y.1 x.4 y.4) ∙ sym y.2

pub run_one : (methods : List Method) → AreQueries methods → (events : List Event) (p q : List Item) → IsRunOf methods events p → IsRunOf methods events q → p ≡ q
run_one methods queries events p q x y = x.1 ∙ ap (λ is. item.Installed ∷ is) (answers_one methods queries 0 events x.0 y.0 x.2 y.2) ∙ sym y.1
