-- Declarations of a list, judged one after the other.
use Rattle.std.proofs.Common.{◌≡◌, ◌∙◌, ◌==◌, ◌+◌, ◌<◌, ℕ, zero, suc, Bool, true, false, List, [], ◌∷◌, ◌++◌, append-nil, append_assoc, cond, drop, length, map, Ok, Err, Option, Some, None, IfSome, option_map, refl, sym, ap, subst, arith}
use Rattle.std.proofs.Math.Dec.{eqb-suc-suc, eqb-zero-suc}
use Rattle.std.specs.Prelude.{OnOk, Result}
use Rattle.std.specs.Result.{IsErr, IsErrAnd}
use Rattle.mo_num.specs.declared.memory.Memory.{Memory}
use Rattle.mo_types.specs.Sub.{Each}
use Rattle.type_terms.specs.declared.form.Form.{Form}
use Rattle.type_terms.specs.declared.form.TermId.{TermId}
use Rattle.typing_rules.specs.AbstractSyntax as p
use Rattle.typing_rules.specs.Contexts.{Context, Scope, with_values}
use Rattle.typing_rules.specs.Expressions.{JudgeOne, JudgeOrder}
use Rattle.typing_rules.specs.Judgements.{Gives, Judgement, Part}
use Rattle.typing_rules.specs.Lists as rules
use Rattle.typing_rules.specs.Lists.{EndsList, of_expression}
use Rattle.typing_rules.specs.Terms.{Term, unit}
use Rattle.type_definitions.specs.Definitions.{rules_in}
use Rattle.type_definitions.specs.Meanings.{term}
use Rattle.type_definitions.specs.Tables.{Later}
use Rattle.type_definitions.proofs.Meanings.{each_map, grows_not}
use Rattle.met_types.specs.States.{Goes, IsReached}
use Rattle.type_judgements.specs.declared.refusal.Refusal.{Refusal}
use Rattle.abstract_tree.specs.declared.declarations.Declaration.{Declaration}
use Rattle.abstract_tree.specs.TreeView.{DeclarationView, plain_declaration_form}
use Rattle.abstract_tree.proofs.TreeViews.{declaration_is}
use Rattle.value_scopes.specs.declared.scopes.Scopes.{Scopes}
use Rattle.value_scopes.specs.Places.{context_in}
use Rattle.value_scopes.specs.Values.{scope_in}
use Rattle.value_scopes.proofs.Seeing.{scope_joined}
use Rattle.typed_patterns.specs.Binding.{Names}
use Rattle.judging.specs.declared.checker.Checker.{Checker}
use Rattle.judging.specs.declared.site.Site.{Site}
use Rattle.judging.specs.Parts.{Sound}
use Rattle.judging.specs.Views.{View, context, definitions, term_in, view, wanted_in}
use Rattle.judging.specs.Answers.{Answers}
use Rattle.judging.proofs.Chains.{given, goes_on, goes_on_from, seen_as, stops}
use Rattle.judging.proofs.Steps.{reached_on}
use Rattle.scope_judging.specs.Binding.{under}
use Rattle.scope_judging.proofs.Under.{context_under, given_elsewhere, refused_elsewhere, sound_without}
use Rattle.list_judging.specs.Lists.{seen_list}
use Rattle.order_rules.specs.declared.entries.Entry.{Entry}
use Rattle.order_rules.specs.declared.entries.MadeDeclaration.{MadeDeclaration}
use Rattle.order_rules.specs.declared.entries.MadeRun.{MadeRun}
use Rattle.order_rules.specs.Entries.{Enters, entry_in, entry_reached, judge_one, judge_order, made_in, run_in, run_reached, wanted_of, with_reached}
use Rattle.order_rules.specs.Listing.{option_list}

-- ---- what is wanted of an expression

-- whether it is the last one
is_end : (xs : List (Declaration ℕ)) (i : ℕ) (w : Option Term) → i < length xs → of_expression true (seen_list (drop (suc i) xs)) w ≡ cond (suc i == length xs) w (Some unit)
is_end [] i w h = absurd (omega arith)
is_end (a ∷ []) zero w h = sym (ap (λ (b : Bool). cond b w (Some unit)) (eqb-suc-suc 0 0))
is_end (a ∷ b ∷ xs) zero w h =
    ap (λ (f : DeclarationView ℕ). of_expression true (f (seen_list xs)) w) (declaration_is b)
    ∙ sym (ap (λ (z : Bool). cond z w (Some unit)) (eqb-suc-suc 0 (suc (length xs)) ∙ eqb-zero-suc (length xs)))
is_end (a ∷ xs) (suc i) w h = is_end xs i w (omega arith) ∙ sym (ap (λ (z : Bool). cond z w (Some unit)) (eqb-suc-suc (suc i) (length xs)))

pub is_wanted : (x : Site) (value b : Bool) (xs : List (Declaration ℕ)) (i : ℕ) → i < length xs → b ≡ cond value (i + 1 == length xs) false → (v : View) → of_expression value (seen_list (drop (suc i) xs)) (wanted_in v x.wanted) ≡ wanted_of x b v
is_wanted x false b xs i h e v = no_value (seen_list (drop (suc i) xs)) ∙ sym (ap (λ (z : Bool). wanted_of x z v) e) where
  no_value : (ds : p.Declarations ℕ) → of_expression false ds (wanted_in v x.wanted) ≡ Some unit
  no_value ds = refl
is_wanted x true b xs i h e v =
    let one : i + 1 ≡ suc i = omega arith in
    is_end xs i (wanted_in v x.wanted) h ∙ (by (suc i == length xs) ∙ sym (ap (λ (z : Bool). wanted_of x z v) (e ∙ ap (λ (n : ℕ). n == length xs) one)))
  where
    by : (z : Bool) → cond z (wanted_in v x.wanted) (Some unit) ≡ wanted_of x z v
    by true = refl
    by false = refl

-- ---- these and then what is given

pub one_pushed : (r : Result (Unit {0}) Memory) (o : Option MadeDeclaration) (a : MadeDeclaration) (old new : List MadeDeclaration) → o ≡ Some a → OnOk r (new ≡ old ++ a ∷ []) → OnOk r (new ≡ old ++ option_list o)
one_pushed r o a old new e h = subst (λ (z : Option MadeDeclaration). OnOk r (new ≡ old ++ option_list z)) (sym e) h

pub none_pushed : (o : Option MadeDeclaration) (old : List MadeDeclaration) → o ≡ None → old ≡ old ++ option_list o
none_pushed o old e = subst (λ (z : Option MadeDeclaration). old ≡ old ++ option_list z) (sym e) (sym (append-nil old))

abbrev pub in_front : List MadeDeclaration → Result MadeRun Refusal → Result MadeRun Refusal
in_front made (Ok run) = Ok (record { kind = run.kind; made = made ++ run.made })
in_front made (Err e) = Err e

in_front_twice : (xs ys : List MadeDeclaration) (r : Result MadeRun Refusal) → in_front xs (in_front ys r) ≡ in_front (xs ++ ys) r
in_front_twice xs ys (Ok run) = ap (λ (l : List MadeDeclaration). Ok (record { kind = run.kind; made = l })) (sym (append_assoc xs ys run.made))
in_front_twice xs ys (Err e) = refl

nothing_before : (r : Result MadeRun Refusal) → in_front [] r ≡ r
nothing_before (Ok run) = refl
nothing_before (Err e) = refl

made_joined : (later : List Form) (o : Option MadeDeclaration) (ys : List MadeDeclaration) → map (made_in later) (option_list o) ++ map (made_in later) ys ≡ map (made_in later) (option_list o ++ ys)
made_joined later None ys = refl
made_joined later (Some a) ys = refl

names_joined : (later : List Form) (s t : Names) (e : Context) → with_values (scope_in later s) (with_values (scope_in later t) e) ≡ with_values (scope_in later (s ++ t)) e
names_joined later s t e =
    ap (λ (vs : Scope). record e { values = vs }) (sym (ap (λ (vs : Scope). vs ++ e.values) (scope_joined later s t) ∙ append_assoc (scope_in later s) (scope_in later t) e.values))

module _ (x : Site) (value : Bool) (xs : List (Declaration ℕ)) (c : Scopes) (k : Checker) where
  abbrev run_at : Names → MadeRun → List Form → rules.Run
  run_at = run_in c x.place

  abbrev whole : View → Judgement rules.Run
  whole = judge_order x value xs

  -- what is known where these names are bound
  abbrev known : Names → View → Context
  known more v = with_values (scope_in v.later more) (context v x.place)

  -- what is left, where this is the type of the last expression
  abbrev left : List (Declaration ℕ) → Names → Option TermId → View → Judgement rules.Run
  left ys more last v = JudgeOrder (definitions v) (known more v) x.at value (seen_list ys) (option_map (term v.later) last) (wanted_in v x.wanted)

  abbrev one_first : Declaration ℕ → List (Declaration ℕ) → Names → View → Judgement rules.Entry
  one_first a ys more v = JudgeOne (definitions v) (known more v) a.note (plain_declaration_form a.form) (of_expression value (seen_list ys) (wanted_in v x.wanted))

  abbrev others : List (Declaration ℕ) → Names → View → rules.Entry → Judgement rules.Run
  others ys more v one =
      Part (JudgeOrder (definitions v) (with_values one.scope (known more v)) x.at value (seen_list ys) one.value (wanted_in v x.wanted)) (λ run. Gives (record { type = run.type; known = run.known; made = one.made ++ run.made }))

  one_of : (a : Declaration ℕ) (ys : List (Declaration ℕ)) (more : Names) (last : Option TermId) (v : View) → left (a ∷ ys) more last v ≡ Part (one_first a ys more v) (others ys more v)
  one_of a ys more last v = ap (λ (f : DeclarationView ℕ). JudgeOrder (definitions v) (known more v) x.at value (f (seen_list ys)) (option_map (term v.later) last) (wanted_in v x.wanted)) (declaration_is a)

  -- with these names at the end
  abbrev Ends : Names → (View → Judgement rules.Run) → Checker → Checker → Result MadeRun Refusal → Type 0
  Ends s j l m r = Answers (run_at s) (with_reached run_reached s) j c l c m r

  -- the first is given before the others
  module _ (s n more : Names) (one : Entry) (ys : List (Declaration ℕ)) (l m : Checker) where
    abbrev behind : View → rules.Run → Judgement rules.Run
    behind v run = Gives (record { type = run.type; known = run.known; made = (entry_in n one v.later).made ++ run.made })

    abbrev parted : View → Judgement rules.Run
    parted v = Part (left ys (n ++ more) one.value v) (behind v)

    same_others : (later : List Form) → others ys more (view later l.types.listed c) (entry_in n one later) ≡ parted (view later l.types.listed c)
    same_others later =
        ap (λ (e : Context). Part (JudgeOrder (rules_in later l.types.listed) e x.at value (seen_list ys) (option_map (term later) one.value) (option_map (term later) x.wanted)) (behind (view later l.types.listed c)))
        (names_joined later n more (context_in later c x.place))

    abbrev with_first : MadeRun → MadeRun
    with_first run = record { kind = run.kind; made = option_list one.made ++ run.made }

    first_given : (r : Result MadeRun Refusal) → Ends s (left ys (n ++ more) one.value) l m r → Ends s (λ v. others ys more v (entry_in n one v.later)) l m (in_front (option_list one.made) r)
    first_given (Ok run) h =
        seen_as (run_at s) (with_reached run_reached s) (λ v. others ys more v (entry_in n one v.later)) parted c c l m (Ok (with_first run)) (λ later w. same_others later)
        (goes_on (run_at s) (with_reached run_reached s) (run_at s) (with_reached run_reached s) (left ys (n ++ more) one.value) behind c c c l m m run (Ok (with_first run)) h
        (given (run_at s) (with_reached run_reached s) (λ v. behind v (run_at s run v.later)) c m (with_first run) h.outcome.sound h.outcome.holds
        (λ later w. ap (λ (ds : List rules.Made). Gives (record { type = term later run.kind; known = with_values (scope_in later s) (context_in later c x.place); made = ds })) (made_joined later one.made run.made))))
    first_given (Err e) h =
        seen_as (run_at s) (with_reached run_reached s) (λ v. others ys more v (entry_in n one v.later)) parted c c l m (Err e) (λ later w. same_others later)
        (stops (run_at s) (with_reached run_reached s) (run_at s) (with_reached run_reached s) (left ys (n ++ more) one.value) behind c c l m e (Err e) (refl, refl) h)

  -- the first of these are given, and the others are still to be judged
  pub record Ordering (i : ℕ) (made : List MadeDeclaration) (last : Option TermId) (d : Scopes) (l : Checker) : Type 0 where
    pub more : Names
    pub pushed : d ≡ under more c
    pub goes : Goes k.types l.types
    pub reached : Each (λ q. IsReached l.types q.1.kind) more
    pub last_reached : IfSome last (IsReached l.types)
    pub rest : (s : Names) (m : Checker) (r : Result MadeRun Refusal) → Ends s (left (drop i xs) more last) l m r → Ends s whole k m (in_front made r)

  pub none_yet : Ordering 0 [] None c k
  none_yet = record {
    more = [];
    pushed = refl;
    goes = record { forms = grows_not k.types.forms; listed = refl; outcomes = refl; reached = λ i u h. h };
    reached = tt;
    last_reached = tt;
    rest = λ s m r h. subst (λ z. Ends s whole k m z) (sym (nothing_before r)) h;
  }

  module _ (i : ℕ) (made : List MadeDeclaration) (last : Option TermId) (d e : Scopes) (l m : Checker) (a : Declaration ℕ) (at : drop i xs ≡ a ∷ drop (suc i) xs) (j : Ordering i made last d l) (b : Bool)
      (wanted : (v : View) → of_expression value (seen_list (drop (suc i) xs)) (wanted_in v x.wanted) ≡ wanted_of x b v) where
    abbrev ys : List (Declaration ℕ)
    ys = drop (suc i) xs

    abbrev one : View → Judgement rules.Entry
    one = judge_one x a.note (plain_declaration_form a.form) b

    turned : (s : Names) (n : Checker) (r : Result MadeRun Refusal) → Ends s (λ v. Part (one_first a ys j.more v) (others ys j.more v)) l n r → Ends s whole k n (in_front made r)
    turned s n r h =
        j.rest s n r (seen_as (run_at s) (with_reached run_reached s) (left (drop i xs) j.more last) (λ v. Part (one_first a ys j.more v) (others ys j.more v)) c c l n r
        (λ later w. ap (λ (zs : List (Declaration ℕ)). left zs j.more last (view later l.types.listed c)) at ∙ one_of a ys j.more last (view later l.types.listed c)) h)

    -- it is judged where the names are bound
    same : (later : List Form) → Later l.types.forms later → one_first a ys j.more (view later l.types.listed c) ≡ one (view later l.types.listed d)
    same later w =
        ap (λ (z : Context). JudgeOne (rules_in later l.types.listed) z a.note (plain_declaration_form a.form) (of_expression value (seen_list ys) (option_map (term later) x.wanted)))
        (context_under j.more later c x.place ∙ ap (λ (z : Scopes). context_in later z x.place) (sym j.pushed))
        ∙ ap (λ (z : Option Term). JudgeOne (rules_in later l.types.listed) (context_in later d x.place) a.note (plain_declaration_form a.form) z) (wanted (view later l.types.listed d))

    -- one more
    pub next : (entry : Entry) (all : List MadeDeclaration) → all ≡ made ++ option_list entry.made → Enters entry_in entry_reached one d l e m (Ok entry) → Ordering (suc i) all entry.value e m
    next entry all q o = record {
      more = o.more ++ j.more;
      pushed = o.pushed ∙ (ap (λ (z : Scopes). under o.more z) j.pushed ∙ ap (λ (vs : Names). record c { values = vs }) (sym (append_assoc o.more j.more c.values)));
      goes = goes_on_from k.types l.types m.types j.goes o.answer.outcome.goes;
      reached = each_both o.more j.more o.answer.outcome.holds.0 (each_map (λ q. IsReached l.types q.1.kind) (λ q. IsReached m.types q.1.kind) (λ q. reached_on l.types m.types q.1.kind o.answer.outcome.goes) j.more j.reached);
      last_reached = o.answer.outcome.holds.1;
      rest = λ s n r g.
          subst (λ z. Ends s whole k n z) (in_front_twice made (option_list entry.made) r ∙ ap (λ (z : List MadeDeclaration). in_front z r) (sym q))
          (turned s n (in_front (option_list entry.made) r)
          (goes_on (run_at s) (with_reached run_reached s) (entry_in o.more) (with_reached entry_reached o.more) (one_first a ys j.more) (others ys j.more) c c c l m n entry (in_front (option_list entry.made) r)
          (given_elsewhere (entry_in o.more) (with_reached entry_reached o.more) (one_first a ys j.more) one c d l same d c m entry
          (sound_without j.more c m (subst (λ (z : Scopes). Sound m z) j.pushed o.answer.outcome.sound)) refl o.answer)
          (first_given s o.more j.more entry ys m n r g)));
    } where
      each_both : (s t : Names) → Each (λ q. IsReached m.types q.1.kind) s → Each (λ q. IsReached m.types q.1.kind) t → Each (λ q. IsReached m.types q.1.kind) (s ++ t)
      each_both [] t h g = g
      each_both (q ∷ s) t h g = (h.0, each_both s t h.1 g)

    -- one that is not typed
    pub refused : (f : Scopes) (q : Refusal) (r : Result MadeRun Refusal) → IsErr r × IsErrAnd r (λ z. z ≡ q) → Enters entry_in entry_reached one d l e m (Err q) → Enters run_at run_reached whole c k f m r
    refused f q (Ok run) g o = let z : false ≡ true = g.0 in cc
    refused f q (Err z) g o = record {
      more = [];
      answer = turned [] m (Err z)
          (stops (run_at []) (with_reached run_reached []) (entry_in o.more) (with_reached entry_reached o.more) (one_first a ys j.more) (others ys j.more) c c l m q (Err z) g
          (refused_elsewhere (entry_in o.more) (with_reached entry_reached o.more) (one_first a ys j.more) one c d l same d c m q o.answer));
      pushed = tt;
    }

  -- all of them
  module _ (i : ℕ) (made : List MadeDeclaration) (last : Option TermId) (d : Scopes) (l m : Checker) (none : drop i xs ≡ []) (sound : Sound l d) (j : Ordering i made last d l) where
    abbrev ending : View → Judgement Term
    ending v = EndsList x.at (option_map (term v.later) last) (wanted_in v x.wanted)

    abbrev ended : View → Term → Judgement rules.Run
    ended v u = Gives (record { type = u; known = known j.more v; made = [] })

    at_end : (s : Names) (r : Result MadeRun Refusal) → Ends s (λ v. Part (ending v) (ended v)) l m r → Ends s whole k m (in_front made r)
    at_end s r h =
        j.rest s m r (seen_as (run_at s) (with_reached run_reached s) (left (drop i xs) j.more last) (λ v. Part (ending v) (ended v)) c c l m r
        (λ later w. ap (λ (zs : List (Declaration ℕ)). left zs j.more last (view later l.types.listed c)) none) h)

    pub sound_before : Sound l c
    sound_before = sound_without j.more c l (subst (λ (z : Scopes). Sound l z) j.pushed sound)

    pub no_end : (f : Scopes) (q : Refusal) (r : Result MadeRun Refusal) → IsErr r × IsErrAnd r (λ z. z ≡ q) → Answers term_in IsReached ending c l c m (Err q) → Enters run_at run_reached whole c k f m r
    no_end f q (Ok run) g h = let z : false ≡ true = g.0 in cc
    no_end f q (Err z) g h = record {
      more = [];
      answer = at_end [] (Err z) (stops (run_at []) (with_reached run_reached []) term_in IsReached ending ended c c l m q (Err z) g h);
      pushed = tt;
    }

    abbrev nothing : TermId → MadeRun
    nothing id = record { kind = id; made = [] }

    pub all_judged : (id : TermId) → Answers term_in IsReached ending c l c m (Ok id) → Enters run_at run_reached whole c k d m (Ok (record { kind = id; made = made }))
    all_judged id h = record {
      more = j.more;
      answer = subst (λ (zs : List MadeDeclaration). Ends j.more whole k m (Ok (record { kind = id; made = zs }))) (append-nil made)
          (at_end j.more (Ok (nothing id))
          (goes_on (run_at j.more) (with_reached run_reached j.more) term_in IsReached ending ended c c c l m m id (Ok (nothing id)) h
          (given (run_at j.more) (with_reached run_reached j.more) (λ v. ended v (term v.later id)) c m (nothing id) h.outcome.sound
          (each_map (λ q. IsReached l.types q.1.kind) (λ q. IsReached m.types q.1.kind) (λ q. reached_on l.types m.types q.1.kind h.outcome.goes) j.more j.reached, h.outcome.holds) (λ later w. refl))));
      pushed = j.pushed;
    }
