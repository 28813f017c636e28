-- What is known of a term answers what is asked of its type.
use Rattle.std.proofs.Common.{◌≡◌, ℕ, zero, suc, ◌<◌, Bool, true, false, List, [], ◌∷◌, length, get_or, Some, slice_get, sym, ap, ◌∙◌, subst, arith}
use Rattle.type_terms.specs.declared.form.Form.{Form}
use Rattle.type_terms.specs.declared.form.TermId.{TermId}
use Rattle.typing_rules.specs.Heads.{head}
use Rattle.type_definitions.specs.declared.chains.Outcome.{Outcome}
use Rattle.type_definitions.specs.Meanings.{term}
use Rattle.type_definitions.specs.Tables.{Later}
use Rattle.type_definitions.specs.Definitions.{Listed, rules_in}
use Rattle.met_types.specs.States.{IsSo}
use Rattle.shareable_types.specs.declared.needs.Needs.{Needs}
use Rattle.shareable_types.specs.Sharing.{allowed}
use Rattle.shareable_types.specs.Shared.{IsAs}
use Rattle.shareable_types.specs.Settled.{AreCovered, IsRound, Knows, Settled}
use Rattle.shareable_types.proofs.Followed.{is_so}
use Rattle.shareable_types.proofs.Parts.{none_known}
use Rattle.shareable_types.proofs.Round.{not_so}

pub answered : (any : Bool) (l : Listed) (ns : List Needs) (forms : List Form) (known : List Needs) → Settled any l ns forms → Knows any l ns forms known
    → (id : TermId) (n : Needs) → slice_get known id.index ≡ Some n → (is : Bool) → is ≡ allowed (λ _. false) n → (later : List Form) → Later forms later → IsSo is (IsAs any (head (rules_in later l)) (term later id))
answered any l ns forms known s k id n e true h later g = is_so any l ns later (s.fixed later g) (term later id) (k later g id n e (λ _. false) ∙ sym h)
answered any l ns forms known s k id n e false h later g = not_so any l ns later (s.valid later g) (term later id) (k later g id n e (λ _. false) ∙ sym h)

-- ---- what is said of the parts of a state

pub at_index : {A : Type 0} (xs : List A) (i : ℕ) (x : A) → i < length xs → x ≡ get_or xs i x → slice_get xs i ≡ Some x
at_index [] i x h e = absurd (omega arith)
at_index (y ∷ xs) zero x h e = ap (λ z. Some z) (sym e)
at_index (y ∷ xs) (suc i) x h e = at_index xs i x (omega arith) e

pub knows_at : (any : Bool) (l l2 : Listed) (ns ns2 : List Needs) (f f2 : List Form) (known : List Needs) → l ≡ l2 → ns ≡ ns2 → f ≡ f2 → Knows any l ns f known → Knows any l2 ns2 f2 known
knows_at any l l2 ns ns2 f f2 known a b c k =
    subst (λ (x : List Form). Knows any l2 ns2 x known) c (subst (λ (x : List Needs). Knows any l2 x f known) b (subst (λ (x : Listed). Knows any x ns f known) a k))

pub round_at : (any : Bool) (l l2 : Listed) (ns ns2 : List Needs) (f f2 : List Form) (os os2 : List Outcome) (ms : List Needs) → l ≡ l2 → ns ≡ ns2 → f ≡ f2 → os ≡ os2 → IsRound any l ns f os ms → IsRound any l2 ns2 f2 os2 ms
round_at any l l2 ns ns2 f f2 os os2 ms a b c d k =
    subst (λ (x : List Outcome). IsRound any l2 ns2 f2 x ms) d
    (subst (λ (x : List Form). IsRound any l2 ns2 x os ms) c (subst (λ (x : List Needs). IsRound any l2 x f os ms) b (subst (λ (x : Listed). IsRound any x ns f os ms) a k)))

pub covered_at : (ns ns2 ms ms2 : List Needs) → ns ≡ ns2 → ms ≡ ms2 → AreCovered ns ms → AreCovered ns2 ms2
covered_at ns ns2 ms ms2 a b k = subst (λ (x : List Needs). AreCovered ns2 x) b (subst (λ (x : List Needs). AreCovered x ms) a k)

pub nothing_known : (any : Bool) (l : Listed) (ns : List Needs) (f : List Form) (known : List Needs) → known ≡ [] → Knows any l ns f known
nothing_known any l ns f known e = subst (Knows any l ns f) (sym e) (none_known any l ns f)
