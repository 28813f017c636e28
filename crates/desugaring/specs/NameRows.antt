-- What a name is where two in scope are the same, beside what is wanted: the number of names that stand between.
use Rattle.std.specs.Prelude.{ℕ, true, false, List, [], ◌∷◌, None, Some, codes}
use Rattle.typing_rules.specs.AbstractSyntax.{Bytes, Program}
use Rattle.typing_rules.specs.AbstractSyntax as p
use Rattle.typing_rules.specs.Rows.{token}
use Rattle.typing_rules.specs.Terms.{nat, unit}
use Rattle.typing_rules.specs.TypedTrees.{Note, note}
use Rattle.desugaring.specs.Frames.{Frame, Returned, in_method, value}
use Rattle.desugaring.specs.Programs.{around}

-- `public shared ({caller}) func f(n : Nat, caller : Nat)` where `o` stands around
abbrev pub in_body : Frame
in_body = in_method (codes "caller" ∷ []) (codes "n" ∷ codes "caller" ∷ []) (record { names = value (codes "o") ∷ []; exits = Returned ∷ [] })

-- `actor NAME { public func A() {}; public func f() {} }`
abbrev pub actor_of : Bytes → Program Note
actor_of x = record {
  imports = [];
  name = Some x;
  fields =
      p.Then true (note 0 unit) (p.Method false None (token 0 (codes "A")) (record { generics = []; parameters = p.Nil; result = None }) (p.exp (note 0 unit) (p.Tuple p.Nil)))
      (p.Then true (note 0 unit) (p.Method false None (token 0 (codes "f")) (record { generics = []; parameters = p.Nil; result = None }) (p.exp (note 0 unit) (p.Tuple p.Nil))) p.End);
}

pub record Row : Type 0 where
  pub frame : Frame
  pub name : Bytes
  pub index : ℕ

-- the parameter is found, not the context; the public function, not the actor
abbrev pub hidden_names : List Row
hidden_names =
    record { frame = in_body; name = codes "caller"; index = 2 }
    ∷ record { frame = in_body; name = codes "n"; index = 1 }
    ∷ record { frame = in_body; name = codes "o"; index = 3 }
    ∷ record { frame = around (actor_of (codes "A")); name = codes "A"; index = 1 }
    ∷ record { frame = around (actor_of (codes "A")); name = codes "f"; index = 2 }
    ∷ record { frame = around (actor_of (codes "B")); name = codes "B"; index = 0 }
    ∷ []
