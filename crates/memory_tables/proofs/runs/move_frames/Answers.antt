-- `move_frames` meets its contract: after j turns j frames are moved. Assumes nothing.
use Rattle.std.proofs.Common.{ℕ, List, length, ◌≤◌, ◌≡◌, ◌+◌, ◌-◌, ◌*◌, drop, replicate, sym, refl, ap, ◌∙◌, arith, take-append-drop, rules}
use Rattle.lists.specs.Parts.{part, splice}
use Rattle.memory_tables.specs.Runs.{rebase, between}
use Rattle.memory_tables.proofs.Shifts.{frames-more, zeros-more, behind, frame-asks}
use Rattle.memory_tables.proofs.runs.move_frames.Goals as goal

-- the frames that are not moved yet are as they were
ahead : (src l : List ℕ) (from k : ℕ) → from ≤ length src → l ≡ splice src from (replicate k 0) → drop (from + k) l ≡ drop (from + k) src
ahead src l from k h e = ap (drop (from + k)) e ∙ behind src from k h

pub loop-j-init : goal.loop-j-init
loop-j-init c =
    let a = c.args in
    (refl, refl, sym (take-append-drop a.at a.dst.now), sym (take-append-drop a.from a.src.now))

pub move_frame-requires : goal.move_frame-requires
move_frame-requires c =
    let a = c.args in
    let l = c.loop-j in
    let inside = c.requires.1.inside in
    (omega arith, frame-asks a.src.now l.src a.from a.n l.j a.old a.new c.requires.1 (omega arith) l.invariant.1 (ahead a.src.now l.src a.from (l.j * 6) (omega arith) l.invariant.3))

pub loop-j-preserved : goal.loop-j-preserved
loop-j-preserved c =
    let a = c.args in
    let l = c.loop-j in
    let m = c.move_frame in
    let inside = c.requires.1.inside in (
      m.auto.dst ∙ l.invariant.0,
      m.auto.src ∙ l.invariant.1,
      m.ensures.0 ∙ frames-more (between a.old a.new) a.at a.dst.now a.src.now a.from l.j (omega arith) (omega arith) l.dst l.src l.invariant.2 (ahead a.src.now l.src a.from (l.j * 6) (omega arith) l.invariant.3),
      m.ensures.1 ∙ ap (λ z. splice z (a.from + l.j * 6) (replicate 6 0)) l.invariant.3 ∙ zeros-more a.src.now a.from l.j (omega arith),
    )

pub shape_of-dst : goal.shape_of-dst
shape_of-dst c = c.loop-j.invariant.0

pub shape_of-src : goal.shape_of-src
shape_of-src c = c.loop-j.invariant.1

pub returns : goal.returns
returns c =
    let a = c.args in
    let l = c.loop-j in
    let e : l.j ≡ a.n = omega arith in (
      l.invariant.2 ∙ ap (λ n. rebase (between a.old a.new) n a.at (splice a.dst.now a.at (part a.from (n * 6) a.src.now))) e,
      l.invariant.3 ∙ ap (λ n. splice a.src.now a.from (replicate (n * 6) 0)) e,
    )
