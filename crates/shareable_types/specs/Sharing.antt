-- Whether the values of a type may be sent, or compared, by what its definitions need of their arguments.
use Rattle.std.specs.Prelude.{ℕ, Bool, true, false, ◌&&◌, not, List, [], ◌∷◌, cond, nat_eq}
use Rattle.mo_types.specs.declared.node.Sort.{Sort}
use Rattle.mo_types.specs.declared.node.Sort.TheVariants as sort
use Rattle.typing_rules.specs.Terms.{Term, Terms, Fields}
use Rattle.typing_rules.specs.Terms as t
use Rattle.shareable_types.specs.declared.needs.Needs.{Needs}

abbrev pub every : List Bool → Bool
every [] = true
every (b ∷ bs) = b && every bs

-- whether it is so of each of these parameters
abbrev pub all : (ℕ → Bool) → List ℕ → Bool
all x [] = true
all x (p ∷ ps) = x p && all x ps

-- whether this is so of parameters as it is needed
abbrev pub allowed : (ℕ → Bool) → Needs → Bool
allowed x n = not n.never && all x n.parameters

-- what is known of the argument of a parameter. One that has no argument has the type None.
abbrev pub of_argument : List ℕ → List Bool → ℕ → Bool
of_argument [] bs p = true
of_argument (q ∷ qs) [] p = true
of_argument (q ∷ qs) (b ∷ bs) p = cond (nat_eq q p) b (of_argument qs bs p)

-- no field is a `var` field
abbrev pub all_constant : Fields → Bool
all_constant t.NoFields = true
all_constant (t.WithField l mutable u fs) = not mutable && all_constant fs

-- whether functions of the sort may be sent
abbrev pub is_sent : Sort → Bool
is_sent sort.Local = false
is_sent s = true

-- where values of Any may be so or not; where definitions have these parameters, and need this of them
module _ (any : Bool) (parameters : ℕ → List ℕ) (needed : ℕ → Needs) where
  abbrev mutual
    -- whether the type's values may be sent, where it is so of its parameters or not
    pub shares : (ℕ → Bool) → Term → Bool
    shares x (t.Number k) = true
    shares x t.Boolean = true
    shares x t.Character = true
    shares x t.Text = true
    shares x t.Blob = true
    shares x t.Principal = true
    shares x t.Error = false
    shares x t.Null = true
    shares x t.Any = any
    shares x t.Bottom = true
    shares x (t.Optional a) = shares x a
    shares x (t.Array a) = shares x a
    shares x (t.MutableArray a) = false
    shares x (t.Tuple us) = every (each_shares x us)
    shares x (t.Object fs) = all_constant fs && every (fields_share x fs)
    shares x (t.Actor fs) = true
    shares x (t.Variant fs) = every (fields_share x fs)
    shares x (t.Function us r) = false
    shares x (t.Shared s us r) = is_sent s
    shares x (t.Async a) = false
    shares x (t.Parameter at) = x at
    shares x (t.Use at us) = allowed (of_argument (parameters at) (each_shares x us)) (needed at)

    pub each_shares : (ℕ → Bool) → Terms → List Bool
    each_shares x t.Nil = []
    each_shares x (t.Cons u us) = shares x u ∷ each_shares x us

    pub fields_share : (ℕ → Bool) → Fields → List Bool
    fields_share x t.NoFields = []
    fields_share x (t.WithField l mutable u fs) = shares x u ∷ fields_share x fs
