-- What is asked of a type goes by its head, and by the same of its parts.
use Rattle.std.proofs.Common.{◌≡◌, ℕ, zero, suc, Bool, true, false, List, [], ◌∷◌, subst}
use Rattle.mo_types.specs.declared.node.Node.{Node}
use Rattle.mo_types.specs.declared.node.Node.TheVariants as node
use Rattle.mo_types.specs.Heads.{is_any}
use Rattle.mo_types.specs.Sub.{Each}
use Rattle.typed_tree.specs.Instances.{types_in}
use Rattle.typed_tree.specs.Shareable.{HasShareableForm, PartsShareable, Shares, Compares}
use Rattle.shareable_types.specs.Shared.{IsAs}

pub each_to : {A : Type 0} (P Q : A → Type 0) → ((a : A) → P a → Q a) → (xs : List A) → Each P xs → Each Q xs
each_to P Q k [] h = tt
each_to P Q k (x ∷ xs) h = (k x h.0, each_to P Q k xs h.1)

each_all : {A : Type 0} (R : ℕ → A → Type 0) (xs : List A) → ((n : ℕ) → Each (R n) xs) → Each (λ a. (n : ℕ) → R n a) xs
each_all R [] h = tt
each_all R (x ∷ xs) h = (λ n. (h n).0, each_all R xs (λ n. (h n).1))

module _ {A : Type 0} where
  -- the form that is wanted
  abbrev pub Fits : Bool → Node A → Type 0
  Fits true x = HasShareableForm x
  Fits false x = HasShareableForm x × (is_any x ≡ false)

  pub form_of : (any : Bool) (x : Node A) → Fits any x → HasShareableForm x
  form_of true x h = h
  form_of false x h = h.0

  pub fits : (any : Bool) (x : Node A) → HasShareableForm x → is_any x ≡ false → Fits any x
  fits true x h e = h
  fits false x h e = (h, e)

  pub parts_to : (R Q : A → Type 0) → ((a : A) → R a → Q a) → (x : Node A) → PartsShareable R x → PartsShareable Q x
  parts_to R Q k (node.Actor fs) h = tt
  parts_to R Q k (node.Func s ps rs) h = tt
  parts_to R Q k (node.Number n) h = tt
  parts_to R Q k x h = each_to R Q k (types_in x) h

  parts_all : (R : ℕ → A → Type 0) (x : Node A) → ((n : ℕ) → PartsShareable (R n) x) → PartsShareable (λ a. (n : ℕ) → R n a) x
  parts_all R (node.Actor fs) h = tt
  parts_all R (node.Func s ps rs) h = tt
  parts_all R (node.Number n) h = tt
  parts_all R x h = each_all R (types_in x) h

  module _ (any : Bool) (head : A → Node A) where
    -- to a depth
    abbrev Goes : ℕ → A → Type 0
    Goes zero t = Unit {0}
    Goes (suc n) t = Fits any (head t) × PartsShareable (Goes n) (head t)

  shares_go : (head : A → Node A) (n : ℕ) (t : A) → Shares head n t → Goes true head n t
  unfolding Shares
  shares_go head zero t h = tt
  shares_go head (suc n) t h = (h.0, parts_to (Shares head n) (Goes true head n) (shares_go head n) (head t) h.1)

  go_shares : (head : A → Node A) (n : ℕ) (t : A) → Goes true head n t → Shares head n t
  unfolding Shares
  go_shares head zero t h = tt
  go_shares head (suc n) t h = (h.0, parts_to (Goes true head n) (Shares head n) (go_shares head n) (head t) h.1)

  compares_go : (head : A → Node A) (n : ℕ) (t : A) → Compares head n t → Goes false head n t
  unfolding Compares
  compares_go head zero t h = tt
  compares_go head (suc n) t h = ((h.0, h.1), parts_to (Compares head n) (Goes false head n) (compares_go head n) (head t) h.2)

  go_compares : (head : A → Node A) (n : ℕ) (t : A) → Goes false head n t → Compares head n t
  unfolding Compares
  go_compares head zero t h = tt
  go_compares head (suc n) t h = (h.0.0, h.0.1, parts_to (Goes false head n) (Compares head n) (go_compares head n) (head t) h.1)

  to_goes : (any : Bool) (head : A → Node A) (t : A) → IsAs any head t → (n : ℕ) → Goes any head n t
  to_goes true head t h n = shares_go head n t (h.by n)
  to_goes false head t h n = compares_go head n t (h.by n)

  from_goes : (any : Bool) (head : A → Node A) (t : A) → ((n : ℕ) → Goes any head n t) → IsAs any head t
  from_goes true head t h = record { by = λ n. go_shares head n t (h n) }
  from_goes false head t h = record { by = λ n. go_compares head n t (h n) }

  module _ (any : Bool) (head : A → Node A) where
    -- types of one head
    pub alike : (t u : A) → head t ≡ head u → IsAs any head t → IsAs any head u
    alike t u e h = from_goes any head u (λ n. by n (to_goes any head t h n)) where
      by : (n : ℕ) → Goes any head n t → Goes any head n u
      by zero k = tt
      by (suc n) k = subst (λ x. Fits any x × PartsShareable (Goes any head n) x) e k

    pub form_fits : (t : A) → IsAs any head t → Fits any (head t)
    form_fits t h = (to_goes any head t h 1).0

    pub parts_so : (t : A) → IsAs any head t → PartsShareable (IsAs any head) (head t)
    parts_so t h =
        parts_to (λ a. (n : ℕ) → Goes any head n a) (IsAs any head) (from_goes any head) (head t)
        (parts_all (Goes any head) (head t) (λ n. (to_goes any head t h (suc n)).1))

    -- It is so of each type of which this is so, where that leads to the same of its parts.
    module _ (R : A → Type 0) (step : (t : A) → R t → Fits any (head t) × PartsShareable R (head t)) where
      pub so : (t : A) → R t → IsAs any head t
      so t r = from_goes any head t (λ n. go n t r) where
        go : (n : ℕ) (t : A) → R t → Goes any head n t
        go zero t r = tt
        go (suc n) t r = let h = step t r in (h.0, parts_to R (Goes any head n) (go n) (head t) h.1)
