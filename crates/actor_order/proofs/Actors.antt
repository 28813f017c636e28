-- The list of an actor in order.
use Rattle.std.proofs.Common.{◌≡◌, ◌⊎◌, inl, inr, ℕ, zero, false, ◌++◌, None, refl, sym, subst}
use Rattle.subtype_laws.specs.Reached.{Among}
use Rattle.typing_rules.specs.AbstractSyntax.{Bytes, Declarations}
use Rattle.typing_rules.specs.AbstractSyntax as p
use Rattle.typing_rules.specs.DeclaredTypes.{with_list}
use Rattle.typing_rules.specs.Gathered.{gathered}
use Rattle.typing_rules.specs.Programs.{first_context}
use Rattle.typing_rules.specs.TypeScopes.{no_types}
use Rattle.desugaring.specs.FreeNames.{names_of_list, in_declarations, without}
use Rattle.block_laws.specs.Order.{AllInOrder, facts_of}
use Rattle.actor_laws.specs.Order.{public_functions, outer_of, IsActorInOrder}
use Rattle.program_laws.specs.Around.{own_names}
use Rattle.program_laws.proofs.Given.{of_fields}
use Rattle.kept_names.specs.Keeping.{ListKept}
use Rattle.kept_names.proofs.Judged.{lists_are_kept}
use Rattle.kept_names.proofs.Names.{among_left, among_right, stays_of}
use Rattle.order_laws.proofs.Made.{placed_so, all_plain, AllPublic}
use Rattle.order_laws.proofs.Orders.{all_in_order}
use Rattle.actor_order.specs.Laws.{ActorsAreInOrder}

more_public : (P Q : Bytes → Type 0) → ((y : Bytes) → P y → Q y) → (ds : Declarations ℕ) → AllPublic P ds → AllPublic Q ds
more_public P Q h p.End k = tt
more_public P Q h (p.Then public n (p.Let q a) rest) k = more_public P Q h rest k
more_public P Q h (p.Then public n (p.Var stable x u a) rest) k = more_public P Q h rest k
more_public P Q h (p.Then public n (p.Func x g body) rest) k = more_public P Q h rest k
more_public P Q h (p.Then public n (p.Method query context x g body) rest) k = (h x.bytes k.0, more_public P Q h rest k.1)
more_public P Q h (p.Then public n (p.System x body) rest) k = more_public P Q h rest k
more_public P Q h (p.Then public n (p.TypeAlias x parameters u) rest) k = more_public P Q h rest k
more_public P Q h (p.Then public n (p.Class x g fields) rest) k = more_public P Q h rest k
more_public P Q h (p.Then public n (p.NamedObject x fields) rest) k = more_public P Q h rest k
more_public P Q h (p.Then public n (p.Evaluate a) rest) k = more_public P Q h rest k

all_public : (ds : Declarations ℕ) → AllPublic (λ y. Among y (public_functions ds)) ds
all_public p.End = tt
all_public (p.Then public n (p.Let q a) rest) = all_public rest
all_public (p.Then public n (p.Var stable x u a) rest) = all_public rest
all_public (p.Then public n (p.Func x g body) rest) = all_public rest
all_public (p.Then public n (p.Method query context x g body) rest) = (inl refl, more_public (λ y. Among y (public_functions rest)) (λ y. (x.bytes ≡ y) ⊎ Among y (public_functions rest)) (λ y i. inr i) rest (all_public rest))
all_public (p.Then public n (p.System x body) rest) = all_public rest
all_public (p.Then public n (p.TypeAlias x parameters u) rest) = all_public rest
all_public (p.Then public n (p.Class x g fields) rest) = all_public rest
all_public (p.Then public n (p.NamedObject x fields) rest) = all_public rest
all_public (p.Then public n (p.Evaluate a) rest) = all_public rest

pub actors_are_in_order : ActorsAreInOrder
actors_are_in_order program slots terms number differ ordered =
    let defs = gathered program in
    let e = first_context program in
    let ds = program.fields in
    let own = own_names program.name in
    let s = with_list no_types ds in
    let hidden = without (names_of_list ds) (own ++ in_declarations ds) in
    of_fields terms program (λ q. ListKept e.values ds q.1) (λ made. IsActorInOrder defs slots number s own ds made.fields) (λ there. lists_are_kept defs terms e 0 false ds None)
    (λ q k there types. record {
      differ = differ;
      used = λ given. subst (λ all. AllInOrder (outer_of own ds) all (facts_of slots number s all ds q.1 given) zero ds q.1) (sym (placed_so defs number q.1))
          (all_in_order slots number s e.values ds q.1 k given (outer_of own ds)
          (λ y i n. among_left hidden (public_functions ds) y (stays_of (names_of_list ds) (own ++ in_declarations ds) y (among_right own (in_declarations ds) y i) n))
          (λ y. Among y (public_functions ds)) (all_public ds) (λ y i. among_right hidden (public_functions ds) y i) (ordered (all_plain e.values k.inner ds q.1 k.each)));
    })
