-- What a call does to what lies below a running coroutine.
use Prim.Native.Nat.{ℕ, ◌≤◌}
use native.Mathlib.Omega.{arith}
use native.Mathlib.Decide.{ℕ_discrete}
use mathlib.Core.Path.{◌≡◌, refl, sym, ap, ◌∙◌, subst}
use mathlib.Core.Logic.{◌≢◌, ◌⊎◌, inl, inr}
use mathlib.Core.Bool.{Bool, true, false, ◌||◌}
use mathlib.Core.List.{List, [], ◌∷◌, ◌++◌, map}
use mathlib.Core.Option.{Option}
use lib.ListN.{length, take}
use lib.Seq.{take-append-le, take-append_seam, take-take}
use Rattle.heap.specs.declared.object.CoroState.{CoroState}
use Rattle.model.specs.Lists.{is_nil}
use Rattle.model.specs.State.{is_created, is_running, is_suspended, is_returned, is_resumable}
use Rattle.model.specs.World.{World}
use Rattle.model.specs.Frames.{is_coro, on_top, set_pc, step_pc, raise, below, base_at}
use Rattle.model.specs.Heap.{coro}
use Rattle.model.specs.Coro.{active}
use Rattle.model.specs.Sound.{marked}
use Rattle.model.specs.declared.machine.Driver.{Driver}
use Rattle.model.specs.declared.machine.Active.{Active}
use Rattle.model.specs.declared.machine.Frame.{Frame}
use Rattle.model.specs.declared.call.Op.{Op}
use Rattle.claims_model.specs.Says.{Sent}
use Rattle.claims_model.specs.Touches.{May}
use Rattle.claims_model.proofs.Entry.{at, suspends, act, pc_by}
use Rattle.claims_model.proofs.Held.{Seat, core_at, words_with, frames_with, Event, Yields, Awaits, Ignores, Returns, event_as, event_by, Mem, mem, put, send, deliver_to}
use Rattle.claims_model.proofs.Cores.{no_both, Kept, kept, unborn, Mode}
use Rattle.claims_model.proofs.Shape as S
use Rattle.claims_model.proofs.Shape.{View, view, Ends, Keeps, Worked, done, quiet, tops, puts, pushes, pops, fails, Enter, Suspend, Return, Apart, Shape, works, enters, suspended, returns, stops}
use Rattle.claims_model.proofs.Events.{run-born, ready-run}
use Rattle.claims_model.proofs.Under.{Lift, lift-with, l-body, l-plain, keeps-pc, keeps-step, Ext, x-here, x-plain, x-coro, ext_top, ext-put, ext-join, ext-in, CutFate, c-left, c-stays, ext_cut, words-le}

or-true : (a b : Bool) → a ≡ true → (a || b) ≡ true
or-true a b e = ap (λ x. x || b) e

failed-born : (k : Seat) → k.state ≡ CoroState.Failed → is_created k.state ≡ false
failed-born k e = ap is_created e

module _ (c : ℕ) (d : Driver) (bs : List ℕ) (bf : List Frame) (bc : List Active) where
  -- the body of c stands over bs, bf and bc
  pub record Over (m : Mem) (rs : List Active) : Type 0 where
    pub ext : Ext c d bf bc (length bs) m.frames rs
    pub words : take (length bs) m.stack ≡ bs

  pub record Under (v : View) : Type 0 where
    pub over : Over (mem v.stack v.frames) v.chain
    pub runs : is_running (v.cores c).state ≡ true

  -- c has failed, and is gone from the chain
  pub record Lost (v : View) : Type 0 where
    pub failed : (v.cores c).state ≡ CoroState.Failed
    pub gone : Apart c v.chain

  over-put : (r x : ℕ) (m : Mem) {rs : List Active} → Over m rs → Over (put r x m) rs
  over-put r x m h = record { ext = h.ext; words = ext-put r x m.stack h.ext ∙ h.words }

  over-top : (g : Frame → Frame) → Keeps g → (m : Mem) {rs : List Active} → Over m rs → Over (mem m.stack (on_top g m.frames)) rs
  over-top g k m h = record { ext = ext_top k h.ext; words = h.words }

  over-send : (r x : ℕ) (m : Mem) {rs : List Active} → Over m rs → Over (send r x m) rs
  over-send r x m h = over-top step_pc keeps-step (put r x m) (over-put r x m h)

  over-deliver : (e : Driver) (g : Event) (m : Mem) {rs : List Active} → Over m rs → Over (deliver_to e g m) rs
  over-deliver (Driver.Resume r) (Yields v) m h = over-send r v m h
  over-deliver (Driver.Resume r) (Awaits v) m h = over-send r v m h
  over-deliver (Driver.Resume r) Ignores m h = h
  over-deliver (Driver.Resume r) (Returns v) m h = over-send r v m h
  over-deliver (Driver.Iter has val iter) (Yields v) m h = over-send has 1 (put val v m) (over-put val v m h)
  over-deliver (Driver.Iter has val iter) (Awaits v) m h = h
  over-deliver (Driver.Iter has val iter) Ignores m h = h
  over-deliver (Driver.Iter has val iter) (Returns v) m h = over-send has 0 m h
  over-deliver Driver.Host g m h = h
  over-deliver Driver.Finalize g m h = h

  over-push : (f : Frame) (xs : List ℕ) (m : Mem) {rs : List Active} → is_coro f.cont ≡ false → f.base ≡ length m.stack → Over m rs → Over (mem (m.stack ++ xs) (f ∷ m.frames)) rs
  over-push f xs m e b h =
      let l : length bs ≤ length m.stack = words-le bs m.stack h.words in
      record { ext = x-plain {f = f} e (omega (arith, l, b)) h.ext; words = take-append-le (length bs) m.stack xs l ∙ h.words }

  -- words from k on go
  cut-words : (k : ℕ) (s : List ℕ) → length bs ≤ k → take (length bs) s ≡ bs → take (length bs) (take k s) ≡ bs
  cut-words k s l h = take-take (length bs) k s l ∙ h

  pop-ext : (f : Frame) (fs : List Frame) (rs : List Active) → Ext c d bf bc (length bs) (f ∷ fs) rs → (is_coro f.cont ≡ false) ⊎ (rs ≡ []) → (length bs ≤ f.base) × Ext c d bf bc (length bs) fs rs
  pop-ext f fs rs (x-here e b) (inl p) = no_both e p
  pop-ext f fs rs (x-here e b) (inr p) = let z : ◌≡◌ {A = ℕ} 0 1 = cc in absurd (omega arith)
  pop-ext f fs rs (x-plain e b x) p = (b, x)
  pop-ext f fs rs (x-coro e b q m x) (inl p) = no_both e p
  pop-ext f fs rs (x-coro e b q m x) (inr p) = let z : ◌≡◌ {A = ℕ} 0 1 = cc in absurd (omega arith)

  -- the body f on top: it is c's, or c stays below it
  pub data BodyFate (f : Frame) (fs : List Frame) (a : Active) (rs : List Active) : Type 0 where
    b-left : a.coro ≡ c → a.driver ≡ d → rs ≡ bc → fs ≡ bf → f.base ≡ length bs → BodyFate f fs a rs
    b-stays : a.coro ≢ c → Ext c d bf bc (length bs) fs rs → length bs ≤ f.base → BodyFate f fs a rs

  body_ext : (f : Frame) (fs : List Frame) (a : Active) (rs : List Active) → Ext c d bf bc (length bs) (f ∷ fs) (a ∷ rs) → is_coro f.cont ≡ true → BodyFate f fs a rs
  body_ext f fs a rs (x-here e b) p = b-left refl refl refl refl b
  body_ext f fs a rs (x-plain e b x) p = no_both p e
  body_ext f fs a rs (x-coro e b q m x) p = b-stays m x b

  -- ---- moves
  kept-runs : {b : Mode} {u : ℕ} {k l : Seat} → Kept b u k l → is_running k.state ≡ true → is_running l.state ≡ true
  kept-runs (kept e) h = ap (λ x. is_running x.state) e ∙ h
  kept-runs {k} (unborn a b m n) h = no_both a (run-born k.state h)

  kept-failed : {b : Mode} {u : ℕ} {k l : Seat} → Kept b u k l → k.state ≡ CoroState.Failed → l.state ≡ CoroState.Failed
  kept-failed (kept e) h = ap (λ x. x.state) e ∙ h
  kept-failed {k} (unborn a b m n) h = no_both a (failed-born k h)

  ended : {s : CoroState} {v : ℕ} {k l : ℕ → Seat} → Ends s v k l → v ≡ c → is_running (k c).state ≡ true → (l c).state ≡ s
  ended {s} {v} {k} {l} e q r = go e.mine
    where
      go : (l v ≡ S.over s (l v).seen (k v)) ⊎ ((is_created (k v).state ≡ true) × (l v ≡ k v)) → (l c).state ≡ s
      go (inl x) = ap (λ y. (l y).state) (sym q) ∙ ap (λ y. y.state) x
      go (inr x) = no_both x.0 (run-born (k v).state (ap (λ y. is_running (k y).state) q ∙ r))

  lost-worked : {m : Option May} {b : Mode} {v z : View} → Worked m b v z → Lost v → Lost z
  lost-worked done h = h
  lost-worked (quiet k q t) h = lost-worked t (record { failed = kept-failed (q c) h.failed; gone = h.gone })
  lost-worked (tops g e s t) h = lost-worked t (record { failed = h.failed; gone = h.gone })
  lost-worked (puts r x a t) h = lost-worked t (record { failed = h.failed; gone = h.gone })
  lost-worked (pushes f xs a p q) h = (record { failed = h.failed; gone = h.gone })
  lost-worked (pops f fs free p q t) h = lost-worked t (record { failed = h.failed; gone = h.gone })
  lost-worked (fails f fs a chain k y p q r e t) h =
      let m : Apart c (a ∷ chain) = subst (Apart c) r h.gone in
      lost-worked t (record { failed = ap (λ x. x.state) (e.others c m.0) ∙ h.failed; gone = m.1 })

module _ (c : ℕ) (d : Driver) (bs : List ℕ) (bf : List Frame) (bc : List Active) (away : Apart c bc) where
  abbrev U : View → Type 0
  U v = Under c d bs bf bc v

  abbrev O : Mem → List Active → Type 0
  O m rs = Over c d bs bf bc m rs

  abbrev L : View → Type 0
  L v = Lost c d bs bf bc v

  -- a body fails: it is c's, or c goes on
  fail-cases : (v : View) (f : Frame) (fs : List Frame) (a : Active) (rs : List Active) (k : ℕ → Seat) → v.frames ≡ f ∷ fs → is_coro f.cont ≡ true → v.chain ≡ a ∷ rs → Ends CoroState.Failed a.coro v.cores k → U v
      → U (record { setup = v.setup; stack = take f.base v.stack; frames = fs; chain = rs; cores = k }) ⊎ L (record { setup = v.setup; stack = take f.base v.stack; frames = fs; chain = rs; cores = k })
  fail-cases v f fs a rs k p q r e u = go (body_ext c d bs bf bc f fs a rs (subst (λ x. Ext c d bf bc (length bs) x (a ∷ rs)) p (subst (λ x. Ext c d bf bc (length bs) v.frames x) r u.over.ext)) q)
    where
      z : View
      z = record { setup = v.setup; stack = take f.base v.stack; frames = fs; chain = rs; cores = k }

      go : BodyFate c d bs bf bc f fs a rs → U z ⊎ L z
      go (b-left x y s t b) = inr (record { failed = ended c d bs bf bc e x u.runs; gone = subst (Apart c) (sym s) away })
      go (b-stays m x b) =
          inl (record {
            over = record { ext = x; words = cut-words c d bs bf bc f.base v.stack b u.over.words };
            runs = ap (λ y. is_running y.state) (e.others c (λ y. m (sym y))) ∙ u.runs;
          })

  pub worked-under : {m : Option May} {b : Mode} {v z : View} → Worked m b v z → U v → U z ⊎ L z
  worked-under done u = inl u
  worked-under (quiet k q t) u = worked-under t (record { over = u.over; runs = kept-runs c d bs bf bc (q c) u.runs })
  worked-under (tops {v} g e s t) u = worked-under t (record { over = over-top c d bs bf bc g e (mem v.stack v.frames) u.over; runs = u.runs })
  worked-under (puts {v} r x a t) u = worked-under t (record { over = over-put c d bs bf bc r x (mem v.stack v.frames) u.over; runs = u.runs })
  worked-under (pushes {v} f xs a p q) u = inl (record { over = over-push c d bs bf bc f xs (mem v.stack v.frames) p q u.over; runs = u.runs })
  worked-under (pops {v} f fs free p q t) u =
      let x = pop-ext c d bs bf bc f fs v.chain (subst (λ x. Ext c d bf bc (length bs) x v.chain) p u.over.ext) q in
      worked-under t (record { over = record { ext = x.1; words = cut-words c d bs bf bc f.base v.stack x.0 u.over.words }; runs = u.runs })
  worked-under {z = z} (fails {v} f fs a rs k y p q r e t) u = go (λ x. worked-under t x) (fail-cases v f fs a rs k p q r e u)
    where
      n : View
      n = record { setup = v.setup; stack = take f.base v.stack; frames = fs; chain = rs; cores = k }

      go : (U n → U z ⊎ L z) → U n ⊎ L n → U z ⊎ L z
      go g (inl x) = g x
      go g (inr x) = inr (lost-worked c d bs bf bc t x)

  -- what a call does
  pub data Fate (w : World) (o : Op) (z : World) : Type 0 where
    goes : U (view z) → Fate w o z
    left : mem z.stack z.frames ≡ deliver_to d (event_by (act w o) w c) (mem bs bf) → z.chain ≡ bc → (is_suspended (core_at z c).state || is_returned (core_at z c).state) ≡ true → Fate w o z
    lost : (core_at z c).state ≡ CoroState.Failed → Fate w o z

  -- the world left has this stack, these frames and this chain
  under_of : (z : World) (m : Mem) (rs : List Active) → mem z.stack z.frames ≡ m → z.chain ≡ rs → O m rs → is_running (core_at z c).state ≡ true → U (view z)
  under_of z m rs p q h r = record { over = subst (λ x. O x z.chain) (sym p) (subst (λ x. O m x) (sym q) h); runs = r }

  mem-path : {s t : List ℕ} {fs gs : List Frame} → s ≡ t → fs ≡ gs → mem s fs ≡ mem t gs
  mem-path p q = λ i. mem (p i) (q i)

  fate-enter : (w : World) (o : Op) (p u : ℕ) (e : Driver) (sent : Sent) (z : World) → Lift (core_at w u).frames → Enter w p u e sent z → U (view w) → U (view z)
  fate-enter w o p u e sent z l t h = go (ℕ_discrete c u)
    where
      fs : List Frame
      fs = on_top (set_pc p) w.frames

      count : (gs : List Frame) → length gs ≡ length (on_top (set_pc p) gs)
      count [] = refl
      count (g ∷ gs) = refl

      bound : length bs ≤ length w.stack
      bound = words-le bs w.stack h.over.words

      go : Dec (c ≡ u) → U (view z)
      go (yes q) = no_both h.runs (ap (λ x. is_running (core_at w x).state) q ∙ ready-run (core_at w u).state t.ready)
      go (no q) =
          under_of z (mem (w.stack ++ words_with sent (core_at w u)) (map (raise (length w.stack)) (frames_with sent (core_at w u)) ++ fs)) (active u (length w.frames) e ∷ w.chain) (mem-path t.stack t.frames) t.chain
          (record {
            ext = ext-join (lift-with sent (core_at w u) l) bound (count w.frames) (λ y. q (sym y)) (ext_top (keeps-pc p) h.over.ext);
            words = take-append-le (length bs) w.stack (words_with sent (core_at w u)) bound ∙ h.over.words;
          })
          (ap (λ x. is_running x.state) (t.others c q) ∙ h.runs)

  fate-suspend : (w : World) (o : Op) (p : ℕ) (ok : Bool) (s : CoroState) (dst x : ℕ) (a : Active) (rs : List Active) (z : World) → act w o ≡ at p ok (suspends s dst x) → Suspend w p s dst x a rs z → U (view w) → Fate w o z
  fate-suspend w o p ok s dst x a rs z y t h = go (ext_cut (subst (λ q. Ext c d bf bc (length bs) fs q) t.inmost (ext_top (keeps-pc p) h.over.ext)))
    where
      fs : List Frame
      fs = on_top (set_pc p) w.frames

      event : ℕ → Event
      event u = event_as (marked (λ r. r.closing) (coro w u)) s x

      go : CutFate c d bf bc (length bs) fs a rs → Fate w o z
      go (c-left p q r s t2) =
          left
          (t.under ∙ ap (λ e. deliver_to e (event a.coro) (mem (take (base_at a.floor fs) w.stack) (below a.floor fs))) q
          ∙ ap (λ u. deliver_to d (event u) (mem (take (base_at a.floor fs) w.stack) (below a.floor fs))) p
          ∙ ap (deliver_to d (event c)) (mem-path (ap (λ n. take n w.stack) t2 ∙ h.over.words) s)
          ∙ ap (λ b. deliver_to d (event_by b w c) (mem bs bf)) (sym y))
          (t.outer ∙ r)
          (or-true (is_suspended (core_at z c).state) (is_returned (core_at z c).state) (ap (λ u. is_suspended (core_at z u).state) (sym p) ∙ ap (λ k. is_suspended k.state) t.mine ∙ t.is-suspended))
      go (c-stays m q l) =
          goes (under_of z (deliver_to a.driver (event a.coro) (mem (take (base_at a.floor fs) w.stack) (below a.floor fs))) rs t.under t.outer
          (over-deliver c d bs bf bc a.driver (event a.coro) (mem (take (base_at a.floor fs) w.stack) (below a.floor fs)) (record { ext = q; words = cut-words c d bs bf bc (base_at a.floor fs) w.stack l h.over.words }))
          (kept-runs c d bs bf bc (t.others c (λ y. m (sym y))) h.runs))

  fate-return : (w : World) (o : Op) (v : View) (x : ℕ) (f : Frame) (fs : List Frame) (a : Active) (rs : List Active) (z : World) → ((u : ℕ) → event_by (act w o) w u ≡ Returns x) → Return v x f fs a rs z → U v ⊎ L v → Fate w o z
  fate-return w o v x f fs a rs z y t (inl h) = go (body_ext c d bs bf bc f fs a rs (subst (λ q. Ext c d bf bc (length bs) q (a ∷ rs)) t.body (subst (λ q. Ext c d bf bc (length bs) v.frames q) t.inmost h.over.ext)) t.its_own)
    where
      go : BodyFate c d bs bf bc f fs a rs → Fate w o z
      go (b-left p q r s b) =
          left
          (t.under ∙ ap (λ e. deliver_to e (Returns x) (mem (take f.base v.stack) fs)) q
          ∙ ap (deliver_to d (Returns x)) (mem-path (ap (λ n. take n v.stack) b ∙ h.over.words) s)
          ∙ ap (λ e. deliver_to d e (mem bs bf)) (sym (y c)))
          (t.outer ∙ r)
          (ap (λ k. is_suspended k || is_returned k) (ended c d bs bf bc t.ends p h.runs))
      go (b-stays m q b) =
          goes (under_of z (deliver_to a.driver (Returns x) (mem (take f.base v.stack) fs)) rs t.under t.outer
          (over-deliver c d bs bf bc a.driver (Returns x) (mem (take f.base v.stack) fs) (record { ext = q; words = cut-words c d bs bf bc f.base v.stack b h.over.words }))
          (ap (λ k. is_running k.state) (t.ends.others c (λ y. m (sym y))) ∙ h.runs))
  fate-return w o v x f fs a rs z y t (inr h) = lost (ap (λ k. k.state) (t.ends.others c (subst (Apart c) t.inmost h.gone).0) ∙ h.failed)

  pub fate : {w z : World} {o : Op} → Shape w o z → ((u : ℕ) → is_resumable (core_at w u).state ≡ true → is_nil (core_at w u).frames ≡ false → Lift (core_at w u).frames) → U (view w) → Fate w o z
  fate {w} {z} {o} (works e b n t) l h = go (worked-under t h)
    where
      go : U (view z) ⊎ L (view z) → Fate w o z
      go (inl x) = goes x
      go (inr x) = lost x.failed
  fate {w} {z} {o} (enters u e sent q t) l h = goes (fate-enter w o (pc_by (act w o)) u e sent z (l u t.ready t.solid) t h)
  fate {w} {z} {o} (suspended p ok s dst x a rs e q t) l h = fate-suspend w o p ok s dst x a rs z q t h
  fate {w} {z} {o} (returns v x f fs a rs e en q t u) l h = fate-return w o v x f fs a rs z q u (worked-under t h)
  fate {w} {z} {o} (stops e i t) l h = go (t.each c)
    where
      go : (Apart c w.chain × (core_at z c ≡ core_at w c)) ⊎ (((core_at z c).state ≡ CoroState.Failed) ⊎ ((is_created (core_at w c).state ≡ true) × (core_at z c ≡ core_at w c))) → Fate w o z
      go (inl x) = ext-in h.over.ext x.0
      go (inr (inl x)) = lost x
      go (inr (inr x)) = no_both x.0 (run-born (core_at w c).state h.runs)

-- an entry puts c over what the call found
pub landed : (w : World) (p c : ℕ) (d : Driver) (sent : Sent) (z : World) → Lift (core_at w c).frames → Enter w p c d sent z → Under c d w.stack (on_top (set_pc p) w.frames) w.chain (view z)
landed w p c d sent z l t =
    record {
      over = record {
        ext = subst (λ x. E x z.chain) (sym t.frames)
            (subst (λ x. E (map (raise (length w.stack)) (frames_with sent (core_at w c)) ++ fs) x) (sym (t.chain ∙ ap (λ n. active c n d ∷ w.chain) (count w.frames))) (join (lift-with sent (core_at w c) l)));
        words = ap
            (take (length w.stack)) t.stack ∙ take-append_seam w.stack (words_with sent (core_at w c));
      };
      runs = t.mine;
    }
  where
    fs : List Frame
    fs = on_top (set_pc p) w.frames

    count : (gs : List Frame) → length gs ≡ length (on_top (set_pc p) gs)
    count [] = refl
    count (g ∷ gs) = refl

    E : List Frame → List Active → Type 0
    E = Ext c d fs w.chain (length w.stack)

    join : {up : List Frame} → Lift up → E (map (raise (length w.stack)) up ++ fs) (active c (length fs) d ∷ w.chain)
    join (l-body {f} e z) = x-here {f = raise (length w.stack) f} e (omega arith)
    join (l-plain {f} e l) = x-plain {f = raise (length w.stack) f} e (omega arith) (join l)
