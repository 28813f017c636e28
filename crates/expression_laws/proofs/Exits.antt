-- What can be left, where one thing more stands around.
use Rattle.std.proofs.Common.{◌≡◌, ℕ, zero, suc, Bool, true, false, List, [], ◌∷◌, Option, Some, refl, sym, ap, ◌∙◌, subst}
use Rattle.std.specs.Prelude.{cond, slice_get}
use Rattle.std.specs.Str.{bytes_eq}
use Rattle.mo_scopes.specs.Scopes.{named}
use Rattle.mo_types.specs.declared.node.TypeId.{TypeId}
use Rattle.mo_types.specs.Graph.{Slot, head_at}
use Rattle.mo_types.specs.Heads.{opt_of}
use Rattle.mo_types.specs.Sub.{IsSomething}
use Rattle.typed_tree.specs.ActionTypes as typed
use Rattle.typed_tree.specs.Typing.{with_label}
use Rattle.typing_rules.specs.AbstractSyntax.{Bytes}
use Rattle.typing_rules.specs.AsyncPlaces.{Labelled}
use Rattle.typing_rules.specs.Contexts.{Context, Label, directly, first_loops, in_loop, in_option}
use Rattle.typing_rules.specs.Contexts as rules
use Rattle.typing_rules.specs.Definitions.{Definitions}
use Rattle.typing_rules.specs.Terms.{Term, unit}
use Rattle.typing_rules.specs.TypeScopes.{TypeScope}
use Rattle.desugaring.specs.Frames.{Exit, Labelled as ALabel, Continued, Optional, Frame, with_exit, exit_from, exit, is_label, is_continued, is_optional, is_returned}
use Rattle.desugaring_laws.specs.Known.{IsKnown}
use Rattle.expression_laws.specs.Fitting.{IsLabelled, IsReturned, Fits}

cond_apart : {A : Type 0} (b : Bool) (f : A → A) (x y z w : A) → x ≡ f z → y ≡ f w → cond b x y ≡ f (cond b z w)
cond_apart true f x y z w h k = h
cond_apart false f x y z w h k = k

from_next : (n : ℕ) (p : Exit → Bool) (xs : List Exit) → exit_from (suc n) p xs ≡ suc (exit_from n p xs)
from_next n p [] = refl
from_next n p (x ∷ xs) = cond_apart (p x) suc (suc n) (exit_from (suc (suc n)) p xs) n (exit_from (suc n) p xs) refl (from_next (suc n) p xs)

differ : false ≡ true → ⊥
differ e = cc

module _ (x : Exit) (f : Frame) (t : TypeId) (ts : List TypeId) (p : Exit → Bool) where
  -- what stands further out
  pub further : (i : Option TypeId) → p x ≡ false → slice_get ts (exit f p) ≡ i → slice_get (t ∷ ts) (exit (with_exit x f) p) ≡ i
  further i h e = ap (λ n. slice_get (t ∷ ts) n) (ap (λ b. cond b zero (exit_from 1 p f.exits)) h ∙ from_next zero p f.exits) ∙ e

  -- what stands there
  pub nearest : p x ≡ true → slice_get (t ∷ ts) (exit (with_exit x f) p) ≡ Some t
  nearest h = ap (λ b. slice_get (t ∷ ts) (cond b zero (exit_from 1 p f.exits))) h

module _ (defs : Definitions) (slots : List Slot) (terms : List Term) (number : Term → TypeId) where
  module _ (scope : TypeScope) (used : List Bytes) (e : Context) (f : Frame) (c : typed.Context) (fit : Fits defs slots terms number scope used e f c) (x : Exit) (t : TypeId) where
    returns_further : is_returned x ≡ false → (u : Term) → e.returns ≡ Some u → IsReturned defs slots terms number (with_exit x f) (with_label t c) u
    returns_further h u r = let k = fit.returns u r in record { known = k.known; left = further x f t c.labels is_returned (Some (number u)) h k.left }

    options_further : is_optional x ≡ false → e.ends ≡ true → (o : TypeId) × (slice_get (t ∷ c.labels) (exit (with_exit x f) is_optional) ≡ Some o) × IsSomething (opt_of (head_at slots o))
    options_further h r = let k = fit.options r in (k.0, further x f t c.labels is_optional (Some k.0) h k.1, k.2)

    label_further : (y : Bytes) (l : Label) → is_label y x ≡ false → is_continued y x ≡ false → IsLabelled defs slots terms number f c y l → IsLabelled defs slots terms number (with_exit x f) (with_label t c) y l
    label_further y l h k i = record {
      known = i.known;
      left = further x f t c.labels (is_label y) (Some (number l.type)) h i.left;
      continued = λ r. further x f t c.labels (is_continued y) (Some (number unit)) k (i.continued r);
    }

  module _ (scope : TypeScope) (used : List Bytes) (e : Context) (f : Frame) (c : typed.Context) (fit : Fits defs slots terms number scope used e f c) where
    -- `do ?`
    pub with_option : (t : TypeId) → IsSomething (opt_of (head_at slots t)) → Fits defs slots terms number scope used (in_option e) (with_exit Optional f) (with_label t c)
    with_option t h = record {
      names = fit.names;
      labels = λ y l k. label_further scope used e f c fit Optional t y l refl refl (fit.labels y l k);
      returns = returns_further scope used e f c fit Optional t refl;
      options = λ r. (t, nearest Optional f t c.labels is_optional refl, h);
      body_is = fit.body_is;
      types = fit.types;
      bounds = fit.bounds;
      scope_is = fit.scope_is;
    }

    -- a label
    pub with_new_label : (x : Bytes) (v : Term) → IsKnown defs terms c.parameters v → Fits defs slots terms number scope used (directly Labelled (rules.with_label x (record { type = v; loop = false }) e)) (with_exit (ALabel x) f) (with_label (number v) c)
    with_new_label x v k = record {
      names = fit.names;
      labels = λ y l h. by y l (bytes_eq y x) refl h;
      returns = returns_further scope used e f c fit (ALabel x) (number v) refl;
      options = options_further scope used e f c fit (ALabel x) (number v) refl;
      body_is = fit.body_is;
      types = fit.types;
      bounds = fit.bounds;
      scope_is = fit.scope_is;
    }
      where
        by : (y : Bytes) (l : Label) (b : Bool) → bytes_eq y x ≡ b → cond (bytes_eq y x) (Some (record { type = v; loop = false })) (named e.labels y) ≡ Some l → IsLabelled defs slots terms number (with_exit (ALabel x) f) (with_label (number v) c) y l
        by y l true h i =
            let q : Some (record { type = v; loop = false }) ≡ Some l = sym (ap (λ z. cond z (Some (record { type = v; loop = false })) (named e.labels y)) h) ∙ i in
            let r : record { type = v; loop = false } ≡ l = cc in
            subst (λ z. IsLabelled defs slots terms number (with_exit (ALabel x) f) (with_label (number v) c) y z) r
            (record { known = k; left = nearest (ALabel x) f (number v) c.labels (is_label y) h; continued = λ z. absurd (differ z) })
        by y l false h i =
            label_further scope used e f c fit (ALabel x) (number v) y l h refl (fit.labels y l (sym (ap (λ z. cond z (Some (record { type = v; loop = false })) (named e.labels y)) h) ∙ i))

    -- the body of a loop under a label
    pub in_body_of : (x : Bytes) (l : Label) (ls : List (Bytes × Label)) → e.labels ≡ (x, l) ∷ ls → Fits defs slots terms number scope used (in_loop Labelled e) (with_exit (Continued x) f) (with_label (number unit) c)
    in_body_of x l ls at = record {
      names = fit.names;
      labels = λ y m h. by y m (bytes_eq y x) refl (sym (ap (λ z. named (first_loops z) y) at) ∙ h);
      returns = returns_further scope used e f c fit (Continued x) (number unit) refl;
      options = options_further scope used e f c fit (Continued x) (number unit) refl;
      body_is = fit.body_is;
      types = fit.types;
      bounds = fit.bounds;
      scope_is = fit.scope_is;
    }
      where
        looped : Label
        looped = record { type = l.type; loop = true }

        was : (y : Bytes) (m : Label) (b : Bool) → bytes_eq y x ≡ b → cond b (Some l) (named ls y) ≡ Some m → IsLabelled defs slots terms number f c y m
        was y m b h i = fit.labels y m (ap (λ z. named z y) at ∙ (ap (λ z. cond z (Some l) (named ls y)) h ∙ i))

        by : (y : Bytes) (m : Label) (b : Bool) → bytes_eq y x ≡ b → cond (bytes_eq y x) (Some looped) (named ls y) ≡ Some m → IsLabelled defs slots terms number (with_exit (Continued x) f) (with_label (number unit) c) y m
        by y m true h i =
            let q : Some looped ≡ Some m = sym (ap (λ z. cond z (Some looped) (named ls y)) h) ∙ i in
            let r : looped ≡ m = cc in
            let k = was y l true h refl in
            subst (λ z. IsLabelled defs slots terms number (with_exit (Continued x) f) (with_label (number unit) c) y z) r (record {
              known = k.known;
              left = further (Continued x) f (number unit) c.labels (is_label y) (Some (number l.type)) refl k.left;
              continued = λ z. nearest (Continued x) f (number unit) c.labels (is_continued y) h;
            })
        by y m false h i =
            label_further scope used e f c fit (Continued x) (number unit) y m refl h (was y m false h (sym (ap (λ z. cond z (Some looped) (named ls y)) h) ∙ i))
