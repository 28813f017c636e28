-- The parts of the values inside a value, in the order of the message.
use Rattle.std.proofs.Common.{◌≡◌, List, [], ◌∷◌, ◌++◌, map, Bool, true, false, cond, Option, Some, None, refl, sym, ap, ap₂, ◌∙◌}
use Rattle.std.specs.Str.{bytes_eq}
use Rattle.std.proofs.lemmas.List.{append-nil}
use Rattle.std.proofs.lemmas.Slice.Eq.{bytes_eq-Decides}
use Rattle.std.proofs.Common.{append_assoc}
use Rattle.mo_types.specs.declared.datum.Datum.{Datum}
use Rattle.mo_types.specs.declared.node.Node.{Node}
use Rattle.mo_types.specs.declared.node.Field.{Field}
use Rattle.mo_types.specs.Values as message
use Rattle.mo_types.specs.Values.{flat}
use Rattle.mo_types.specs.Code.{beside}
use Rattle.mo_values.specs.Messages.{joined, under, labels, types, value_or_none, both, plain_at, plain_each}
use Rattle.mo_values.specs.Shapes.{Bytes, Shape, Shapes, NoShape, AShape, listed}
use Rattle.arena_messages.specs.Inside.{at, asked, both_there, in_fields}
use Rattle.arena_messages.specs.Goes.{parts, all_parts}
use Rattle.arena_messages.proofs.Steps.{parts_append}

pub flat_beside : (v w : message.Values) → flat (beside v w) ≡ flat v ++ flat w
flat_beside message.Nil w = refl
flat_beside (message.Value p inner others) w =
    ap (λ l. p ∷ flat inner ++ l) (flat_beside others w) ∙ ap (λ l. p ∷ l) (sym (append_assoc (flat inner) (flat others) (flat w)))

-- a list of plain values, of a first one and of the others
pub record Split {V : Type 0} (o : Option V) (r : Option (List V)) (vs : List V) : Type 0 where
  pub first : V
  pub rest : List V
  pub first_is : o ≡ Some first
  pub rest_is : r ≡ Some rest
  pub whole : vs ≡ first ∷ rest

pub split : {V : Type 0} (o : Option V) (r : Option (List V)) (vs : List V) → both o r ≡ Some vs → Split o r vs
split None r vs e = absurd (let f : None ≡ Some vs = e in cc)
split (Some v) None vs e = absurd (let f : None ≡ Some vs = e in cc)
split (Some v) (Some ws) vs e =
    let f : Some (v ∷ ws) ≡ Some vs = e in
    record { first = v; rest = ws; first_is = refl; rest_is = refl; whole = cc }

none_there : {A F : Type 0} (o : Option A) → both_there {A = A} {F = F} o None ≡ []
none_there None = refl
none_there (Some t) = refl

empty : {V : Type 0} (vs : List V) → Some [] ≡ Some vs → vs ≡ []
empty vs e = cc

the_same : {V : Type 0} (v w : V) → Some v ≡ Some w → v ≡ w
the_same v w e = cc

abbrev type_of : {A : Type 0} → List (Field A) → Bytes → Option A
type_of all l = under l (labels all) (types all)

module _ {A F : Type 0} (head : A → Node A) where
  pub each_parts : (ts : List (Option A)) (vs : Shapes F) (ms : List message.Values) → plain_each head ts vs ≡ Some ms → flat (joined ms) ≡ all_parts head (asked ts vs)
  each_parts [] vs ms e = ap (λ (l : List message.Values). flat (joined l)) (empty ms e)
  each_parts (t ∷ ts) NoShape ms e = ap (λ (l : List message.Values). flat (joined l)) (empty ms e)
  each_parts (None ∷ ts) (AShape v vs) ms e =
      let s : Split (Some message.Nil) (plain_each head ts vs) ms = split (Some message.Nil) (plain_each head ts vs) ms e in
      let nil : s.first ≡ message.Nil = sym (the_same message.Nil s.first s.first_is) in
      ap (λ (l : List message.Values). flat (joined l)) s.whole ∙ ap (λ (m : message.Values). flat (beside m (joined s.rest))) nil ∙ each_parts ts vs s.rest s.rest_is
  each_parts (Some t ∷ ts) (AShape v vs) ms e =
      let s : Split (plain_at head (Some t) v) (plain_each head ts vs) ms = split (plain_at head (Some t) v) (plain_each head ts vs) ms e in
      ap (λ (l : List message.Values). flat (joined l)) s.whole
      ∙ flat_beside s.first (joined s.rest)
      ∙ ap₂ (λ (a b : List Datum). a ++ b) (ap (λ (o : Option message.Values). flat (value_or_none o)) (sym s.first_is)) (each_parts ts vs s.rest s.rest_is)

  -- ---- objects

  module _ (all : List (Field A)) where
    there_parts : (o : Option A) (v : Shape F) (m : message.Values) → plain_at head o v ≡ Some m → flat m ≡ all_parts head (both_there o (Some v))
    there_parts None v m e = ap (λ (x : message.Values). flat x) (sym (the_same message.Nil m e))
    there_parts (Some t) v m e = ap (λ (o : Option message.Values). flat (value_or_none o)) (sym e) ∙ sym (append-nil (parts head (at t v)))

    under_parts : (l : Bytes) (ls : List Bytes) (vs : Shapes F) (ms : List message.Values) → plain_each head (map (type_of all) ls) vs ≡ Some ms
        → flat (value_or_none (under l ls ms)) ≡ all_parts head (both_there (type_of all l) (under l ls (listed vs)))
    under_parts l [] vs ms e = sym (ap (all_parts head) (none_there {A = A} {F = F} (type_of all l)))
    under_parts l (m ∷ ls) NoShape ms e =
        ap (λ (x : List message.Values). flat (value_or_none (under l (m ∷ ls) x))) (empty ms e) ∙ sym (ap (all_parts head) (none_there {A = A} {F = F} (type_of all l)))
    under_parts l (m ∷ ls) (AShape v vs) ms e = ap (λ (x : List message.Values). flat (value_or_none (under l (m ∷ ls) x))) s.whole ∙ by (bytes_eq l m) refl (λ ws f. under_parts l ls vs ws f)
      where
        s : Split (plain_at head (type_of all m) v) (plain_each head (map (type_of all) ls) vs) ms
        s = split (plain_at head (type_of all m) v) (plain_each head (map (type_of all) ls) vs) ms e

        by : (b : Bool) → bytes_eq l m ≡ b
            → ((ws : List message.Values) → plain_each head (map (type_of all) ls) vs ≡ Some ws → flat (value_or_none (under l ls ws)) ≡ all_parts head (both_there (type_of all l) (under l ls (listed vs))))
            → flat (value_or_none (cond (bytes_eq l m) (Some s.first) (under l ls s.rest))) ≡ all_parts head (both_there (type_of all l) (cond (bytes_eq l m) (Some v) (under l ls (listed vs))))
        by true f later =
            let same : l ≡ m = (bytes_eq-Decides l m).0 f in
            ap (λ c. flat (value_or_none (cond c (Some s.first) (under l ls s.rest)))) f
            ∙ there_parts (type_of all l) v s.first (ap (λ x. plain_at head (type_of all x) v) same ∙ s.first_is)
            ∙ sym (ap (λ c. all_parts head (both_there (type_of all l) (cond c (Some v) (under l ls (listed vs))))) f)
        by false f later =
            ap (λ c. flat (value_or_none (cond c (Some s.first) (under l ls s.rest)))) f
            ∙ later s.rest s.rest_is
            ∙ sym (ap (λ c. all_parts head (both_there (type_of all l) (cond c (Some v) (under l ls (listed vs))))) f)

    pub field_parts : (ls : List Bytes) (vs : Shapes F) (ms : List message.Values) → plain_each head (map (type_of all) ls) vs ≡ Some ms → (fs : List (Field A))
        → flat (joined (map (λ f. value_or_none (under f.label ls ms)) fs)) ≡ all_parts head (in_fields all ls (listed vs) fs)
    field_parts ls vs ms e [] = refl
    field_parts ls vs ms e (f ∷ fs) =
        flat_beside (value_or_none (under f.label ls ms)) (joined (map (λ f. value_or_none (under f.label ls ms)) fs))
        ∙ ap₂ (λ (a b : List Datum). a ++ b) (under_parts f.label ls vs ms e) (field_parts ls vs ms e fs)
        ∙ sym (parts_append head (both_there (type_of all f.label) (under f.label ls (listed vs))) (in_fields all ls (listed vs) fs))
