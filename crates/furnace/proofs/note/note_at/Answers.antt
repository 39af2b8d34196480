-- `note_at` meets its contract. Assumes nothing.
use Rattle.std.proofs.Common.{◌≡◌, ℕ, List, Bool, true, not, ◌&&◌, sym, ap, ◌∙◌, arith}
use Rattle.claims_sound.proofs.Tests.{and_left, and_right}
use Rattle.furnace.specs.Watch.{note_of, note_fits, frames_fit}
use Rattle.furnace.proofs.Words.{Fits, fitting, note-below}
use Rattle.furnace.proofs.Bodies as bodies
use Rattle.furnace.proofs.Watching.{nobody-noted, none-noted, one-noted}
use Rattle.furnace.proofs.note.note_at.Goals as goal

words-fit : (stack : List ℕ) (own top height r : ℕ) (f b : Bool) → b ≡ note_fits stack own top height r && f → b ≡ true → Fits stack own top height r
words-fit stack own top height r f b e t = fitting stack own top height r (and_left (note_fits stack own top height r) f (sym e ∙ t))

frames-fit : (f : Bool) (frames : List ℕ) (floor depth : ℕ) (b : Bool) → b ≡ f && frames_fit frames floor depth → b ≡ true → bodies.Fit frames floor depth
frames-fit f frames floor depth b e t = bodies.fitting frames floor depth (and_right f (frames_fit frames floor depth) (sym e ∙ t))

pub returns-then-m-eq0 : goal.returns-then-m-eq0
returns-then-m-eq0 c = let a = c.args in nobody-noted a.stack.now a.frames.now a.chain.now a.m a.r a.pc a.notes.now c.if-m-eq0.true

pub returns-then-not-all_fit : goal.returns-then-not-all_fit
returns-then-not-all_fit c =
    let a = c.args in
    none-noted a.stack.now a.frames.now a.chain.now a.m a.r a.pc a.notes.now c.own_base-own.result c.top_base-top.result
    c.floor-low.result _ c.own_base-own.ensures c.top_base-top.ensures c.floor-low.ensures c.all_fit.ensures (ap not c.if-not-all_fit.true)

pub overflow_sub-n : goal.overflow_sub-n
overflow_sub-n c = (words-fit c.args.stack.now c.own_base-own.result c.top_base-top.result c.args.m.height c.args.r _ _ c.all_fit.ensures c.if-not-all_fit.false).above

pub overflow_add-place : goal.overflow_add-place
overflow_add-place c = let f = words-fit c.args.stack.now c.own_base-own.result c.top_base-top.result c.args.m.height c.args.r _ _ c.all_fit.ensures c.if-not-all_fit.false in omega (arith, f.among, c.saturating_sub.ensures, c.well_formed)

pub keep-requires : goal.keep-requires
keep-requires c =
    let f = words-fit c.args.stack.now c.own_base-own.result c.top_base-top.result c.args.m.height c.args.r _ _ c.all_fit.ensures c.if-not-all_fit.false in
    let b = note-below c.coroutine.result in
    (omega (arith, f.above, f.few, c.note_of-at.ensures, b, c.requires), omega (arith, f.above, f.within))

pub overflow_sub-depth : goal.overflow_sub-depth
overflow_sub-depth c = let f = frames-fit _ c.args.frames.now c.floor-low.result c.args.m.depth _ c.all_fit.ensures c.if-not-all_fit.false in omega (arith, f.some)

pub keep-requires-2 : goal.keep-requires-2
keep-requires-2 c =
    let f = frames-fit _ c.args.frames.now c.floor-low.result c.args.m.depth _ c.all_fit.ensures c.if-not-all_fit.false in
    let b = note-below c.coroutine.result in
    (omega (arith, c.note_of-at.ensures, b, c.requires, c.keep.auto.notes), (omega (arith, f.some), (f.few, omega (arith, f.some, f.whole))))

pub returns : goal.returns
returns c =
    let a = c.args in
    one-noted a.stack.now a.frames.now a.chain.now a.m a.r a.pc a.notes.now c.own_base-own.result c.top_base-top.result
    c.floor-low.result _ c.own_base-own.ensures c.top_base-top.ensures c.floor-low.ensures c.all_fit.ensures (ap not c.if-not-all_fit.false)
    c.if-m-eq0.false
    c.note_of-at.result c.saturating_sub.result (c.note_of-at.ensures ∙ ap note_of c.coroutine.ensures) c.saturating_sub.ensures _ _
    c.keep.ensures c.keep-2.ensures
