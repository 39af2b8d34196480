-- THE SHEET of Yield, YieldKv and Await. The charge left u.
use Rattle.std.specs.Prelude.{ℕ, suc, ◌+◌, ◌-◌, ◌*◌, max, Bool, true, false, not, ◌&&◌, List, [], ◌∷◌, map, length, get_or, take, drop, Option, Some, None}
use Rattle.lists.specs.Pick.{pick}
use Rattle.heap.specs.declared.object.CoroState.{CoroState}
use Rattle.model.specs.Lists.{is_nil}
use Rattle.model.specs.Object.{Core, Rest, Object}
use Rattle.model.specs.World.{World}
use Rattle.model.specs.declared.machine.Active.{Active}
use Rattle.model.specs.declared.machine.Driver.{Driver}
use Rattle.model.specs.declared.machine.Frame.{Frame}
use Rattle.model.specs.declared.machine.Fuel.{Fuel}
use Rattle.model.specs.declared.machine.Stop.{Stop}
use Rattle.claims_sheet.specs.Setters.{with_maxregs, with_maxframes, with_payload, with_stack, with_frames, with_chain, with_finalizing, with_outcome, with_used, with_fuel}
use Rattle.claims_sheet.specs.Words.{found, rest_of, used_with}
use Rattle.claims_sheet.specs.Moves.{put, sent, replaced, marked}

-- ---- the innermost running coroutine

abbrev pub innermost_active : List Active → Active
innermost_active [] = record { coro = 0; floor = 0; driver = Driver.Host }
innermost_active (a ∷ chain) = a

abbrev pub rest_here : World → Rest
rest_here w = rest_of (found w (innermost_active w.chain).coro)

-- its Coro frame with all frames above it; that frame's base
abbrev pub held_frames : World → List Frame
held_frames w = take (length w.frames - (innermost_active w.chain).floor) w.frames

abbrev pub floor_base : World → ℕ
floor_base w = get_or (map (λ f. f.base) w.frames) (length w.frames - suc (innermost_active w.chain).floor) 0

-- "the words from that frame's base up", and its frames with bases from 0
abbrev pub saved_core : CoroState → ℕ → World → Core
saved_core s dst w =
    record {
      state = s;
      regs = drop (floor_base w) w.stack;
      frames = map (λ f. record { func = f.func; pc = f.pc; base = f.base - floor_base w; closure = f.closure; cont = f.cont }) (held_frames w);
      waiting = dst;
    }

-- "8 bytes per register and F per frame beyond the coroutine's largest saved sizes so far"
abbrev pub growth : World → ℕ
growth w =
    (length (drop (floor_base w) w.stack) - (rest_here w).maxregs) * 8 + (length (held_frames w) - (rest_here w).maxframes) * w.setup.costs.frame

-- the rest of it, once keys and closing are seen to
abbrev pub saved_rest : World → ℕ → Rest → Rest
saved_rest w payload r =
    with_payload payload (with_maxregs (max (rest_here w).maxregs (length (drop (floor_base w) w.stack))) (with_maxframes (max (rest_here w).maxframes (length (held_frames w))) r))

-- it is suspended with the core k and the rest r; the stack and frames below are its caller's
abbrev pub suspended_with : Core → Rest → World → World
suspended_with k r w =
    replaced (innermost_active w.chain).coro (Object.Coro k r)
    (with_chain (drop 1 w.chain)
    (with_frames (drop (length w.frames - (innermost_active w.chain).floor) w.frames)
    (with_stack (take (floor_base w) w.stack) (with_used (used_with w (growth w)) w))))

-- ---- deliveries

-- "While a close is ready, the fuel left is set aside"
abbrev pub armed : Option ℕ → ℕ → Bool → Fuel
armed None n ready = pick ready (record { fuel = 0; bank = Some n; ready = ready }) (record { fuel = n; bank = None; ready = ready })
armed (Some b) n ready = record { fuel = n; bank = Some b; ready = ready }

-- a cleanup runs, or none; one is ready if none runs and the queue has words
abbrev pub cleaning : Bool → World → World
cleaning b w = with_fuel (armed w.fuel.bank w.fuel.fuel (not b && not (is_nil w.finalize))) (with_finalizing b w)

-- an instruction resumed it
abbrev pub asks : Driver → Bool
asks (Driver.Resume dst) = true
asks (Driver.Iter has val iter) = true
asks Driver.Host = false
asks Driver.Finalize = false

abbrev pub is_loop : Driver → Bool
is_loop (Driver.Resume dst) = false
is_loop (Driver.Iter has val iter) = true
is_loop Driver.Host = false
is_loop Driver.Finalize = false

-- "Iterator driver: iterator key, `val` register, then `has` = 1 and pc step .. Host driver: the outcome. Cleanup driver: finalizing ends."
abbrev pub delivered : Driver → ℕ → ℕ → Stop → World → World
delivered (Driver.Resume dst) payload key s w = sent dst payload w
delivered (Driver.Iter has val iter) payload key s w = sent has 1 (put val payload (marked iter (λ d. d) (λ k. Some key) w))
delivered Driver.Host payload key s w = with_outcome (Some s) w
delivered Driver.Finalize payload key s w = cleaning false w
