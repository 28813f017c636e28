-- Events and limits at their borders.
use Rattle.std.specs.Prelude.{ℕ, zero, suc, ◌^◌, ◌-◌, List, [], ◌∷◌, true}
use Rattle.wasm_tree.specs.Exec.{ExecutionLimits}
use Rattle.play_script.specs.declared.event.Event.TheVariants.{Call, Reply, Reject}
use Rattle.actor_refinement.specs.Limits.{IsWithin}
use Rattle.actor_refinement.specs.SoundEvents.{IsSound}

abbrev pub so_many : ℕ → List ℕ
so_many zero = []
so_many (suc n) = 0 ∷ so_many n

abbrev limits_of : (steps pages stack : ℕ) → ExecutionLimits
limits_of steps pages stack = record { steps = steps; pages = pages; stack = stack }

pub record LimitRows : Type 0 where
  pub least : IsWithin (limits_of 10000 1 8192)
  pub most : IsWithin (limits_of 1000000000000 8192 16777216)
  pub by_default : IsWithin (limits_of 100000000 1024 4194304)
  pub few_steps : IsWithin (limits_of 9999 1 8192) → ⊥
  pub no_page : IsWithin (limits_of 10000 0 8192) → ⊥
  pub small_stack : IsWithin (limits_of 10000 1 8191) → ⊥
  pub many_steps : IsWithin (limits_of 1000000000001 8192 16777216) → ⊥
  pub many_pages : IsWithin (limits_of 1000000000000 8193 16777216) → ⊥
  pub large_stack : IsWithin (limits_of 1000000000000 8192 16777217) → ⊥

pub record EventRows : Type 0 where
  pub principal : IsSound (Call true [] (so_many 29) [])
  pub long_principal : IsSound (Call true [] (so_many 30) []) → ⊥
  pub no_principal : IsSound (Call true [] (256 ∷ []) []) → ⊥
  pub bytes : IsSound (Reply 0 (0 ∷ 255 ∷ []))
  pub no_bytes : IsSound (Reply 0 (0 ∷ 256 ∷ [])) → ⊥
  pub code : IsSound (Reject 0 (2 ^ 32 - 1) [])
  pub no_code : IsSound (Reject 0 (2 ^ 32) []) → ⊥
