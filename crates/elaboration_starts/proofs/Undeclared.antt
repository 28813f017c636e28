-- An actor without declarations: both executions come at once to what stands behind them.
use Rattle.std.proofs.Common.{◌≡◌, Bool, ℕ, suc, ◌+◌, ◌*◌, ◌≤◌, List, [], Option, refl, sym, subst, arith}
use Rattle.std.specs.Prelude.{max}
use Rattle.mo_values.specs.Shapes.{Bytes}
use Rattle.typed_tree.specs.Language.{Exp, Functions, NoFunction, AFunction, Group}
use Rattle.typed_tree.specs.Substitution.{count, group_nodes}
use Rattle.mo_meaning.specs.Configurations.{Surroundings}
use Rattle.mo_meaning.specs.Depth.{live}
use Rattle.mo_machine.specs.Environments.{Environment, with_group}
use Rattle.mo_machine.specs.Configurations.{Still, live_on, live_state}
use Rattle.mo_machine.specs.Frames.{Stack, Eval}
use Rattle.mo_machine.specs.Turns.{steps}
use Rattle.elaboration_starts.specs.Declarations as declarations
use Rattle.elaboration_starts.specs.Declarations.{Declares, Opens, Groups, Ends, DeclaresNothing, finish}
use Rattle.elaboration_starts.proofs.Alongside.{Bases, Under, conf, base_live, live_both, under_group}
use Rattle.elaboration_starts.proofs.Calm.{base_calm, owes_nothing}
use Rattle.elaboration_starts.proofs.Leading.{Leads, Here, Then}
use Rattle.elaboration_starts.proofs.Serving.{base_handles}
use Rattle.elaboration_starts.proofs.Tails.{quiet}

module _ (s : Surroundings) (outer : Environment) (methods : ℕ) (last : Functions) (before behind : Option ℕ) (labels : List Bytes) (cells : List ℕ) (total : ℕ) (upgraded : Bool) (extra floor : ℕ) where
  abbrev D : ℕ → Exp → Exp → Type 0
  D = Declares methods last before behind labels cells total upgraded

  abbrev the_parts : Exp
  the_parts = declarations.parts methods last before behind labels cells

  -- what stands in a group declares nothing either
  inside : (m : ℕ) (fns : Functions) (b c : Exp) → D m b c → DeclaresNothing (Group fns b) → DeclaresNothing b
  inside m NoFunction b c (Opens n p e b' c' d) h = h
  inside m NoFunction b c (Groups n gs b' c' few d) h = h
  inside m NoFunction b c (Ends n is) h = h
  inside m (AFunction how nodes ps body fns) b c (Opens n p e b' c' d) h = absurd h
  inside m (AFunction how nodes ps body fns) b c (Groups n gs b' c' few d) h = absurd h
  inside m (AFunction how nodes ps body fns) b c (Ends n is) h = absurd h

  pub record Reaches (x d w e : ℕ) (b c : Exp) (env : Environment) (k l : Stack) : Type 0 where
    pub groups : ℕ
    pub x' : ℕ
    pub d' : ℕ
    pub w' : ℕ
    pub e' : ℕ
    pub env' : Environment
    pub real : steps s groups (conf x d [] [] [] (Eval b env) k) ≡ Still (conf x' d' [] [] [] (Eval (Group last the_parts) env') k)
    pub leads : Leads s (conf w e [] [] [] (Eval c env) l) (conf w' e' [] [] [] (Eval (finish last upgraded behind total) env') l)
    pub paid : extra + w' ≤ suc x'
    pub shallow : max floor e' ≤ d'
    pub few : total + total ≤ w'
    pub under : Under outer total env'

  pub reaches : (m : ℕ) (b c : Exp) → D m b c → DeclaresNothing b → (x d w e : ℕ) (env : Environment) (k l : Stack) → Bases upgraded k l → extra + w ≤ suc x → max floor e ≤ d → total + m ≤ w → Under outer m env → Reaches x d w e b c env k l
  reaches m b c (Opens n p e1 b' c' i) h x d w e env k l base pays le few u = absurd h
  reaches m b c (Groups n fns b' c' some i) h x d w e env k l base pays le few u = by (reaches (count fns + n) b' c' i (inside (count fns + n) fns b' c' i h) x1 d1 w1 e1 (with_group fns env) k l base (omega (arith, pays)) deep (omega (arith, few, some)) (under_group outer n env fns u))
    where
      x1 : ℕ
      x1 = x + (1 + group_nodes fns)

      w1 : ℕ
      w1 = w + (1 + group_nodes fns)

      d1 : ℕ
      d1 = max (max d (live_state (Eval (Group fns b') env) k + 16 * 0)) (live_state (Eval b' (with_group fns env)) k)

      e1 : ℕ
      e1 = max (max e (live_state (Eval (Group fns c') env) l + 16 * 0)) (live_state (Eval c' (with_group fns env)) l)

      deep : max floor e1 ≤ d1
      deep =
          let z : live_on k ≡ live_on l = base_live k l base in
          let y : live b' ≡ live c' = live_both s outer methods last before behind labels cells total upgraded extra floor (count fns + n) b' c' i in
          omega (arith, z, y, le)

      by : Reaches x1 d1 w1 e1 b' c' (with_group fns env) k l → Reaches x d w e (Group fns b') (Group fns c') env k l
      by r = record {
        groups = suc r.groups;
        x' = r.x';
        d' = r.d';
        w' = r.w';
        e' = r.e';
        env' = r.env';
        real = r.real;
        leads = Then _ (conf w1 e1 [] [] [] (Eval c' (with_group fns env)) l) _ refl (quiet (Group fns c') env w e [] [] [] l (base_handles k l base)) (omega arith) (omega arith) refl (owes_nothing l (base_calm k l base)) r.leads;
        paid = r.paid;
        shallow = r.shallow;
        few = r.few;
        under = r.under;
      }
  reaches m b c (Ends n is) h x d w e env k l base pays le few u = record {
    groups = 0;
    x' = x;
    d' = d;
    w' = w;
    e' = e;
    env' = env;
    real = refl;
    leads = subst (λ n. Leads s (conf w e [] [] [] (Eval (finish last upgraded behind n) env) l) (conf w e [] [] [] (Eval (finish last upgraded behind total) env) l)) (sym is) (Here _);
    paid = pays;
    shallow = le;
    few = subst (λ n. total + n ≤ w) is few;
    under = subst (λ n. Under outer n env) is u;
  }
