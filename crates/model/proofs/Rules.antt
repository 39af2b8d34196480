-- Sound is its fourteen rules. Assumes nothing.
use mathlib.Core.Path.{◌≡◌}
use mathlib.Core.Bool.{true, ◌&&◌}
use Rattle.model.specs.Program.{setup_ok}
use Rattle.model.specs.World.{World}
use Rattle.model.specs.Sound.{sizes_ok, saved_sizes_ok, frames_ok, entry_ok, floors_ok, drivers_ok, running_ok, saved_ok, rows_ok, queues_ok, fuel_ok, unused_ok, ranges_ok, sound}
use Rattle.model.proofs.Tests.{and_left, and_right, both}

pub record Rules (w : World) : Type 0 where
  pub setup : setup_ok w.setup ≡ true
  pub sizes : sizes_ok w ≡ true
  pub saved_sizes : saved_sizes_ok w ≡ true
  pub frames : frames_ok w ≡ true
  pub entry : entry_ok w ≡ true
  pub floors : floors_ok w ≡ true
  pub drivers : drivers_ok w ≡ true
  pub running : running_ok w ≡ true
  pub saved : saved_ok w ≡ true
  pub rows : rows_ok w ≡ true
  pub queues : queues_ok w ≡ true
  pub fuel : fuel_ok w ≡ true
  pub unused : unused_ok w ≡ true
  pub ranges : ranges_ok w ≡ true

pub rules : (w : World) → sound w ≡ true → Rules w
unfolding sound
rules w h =
    let a₁ = setup_ok w.setup in
    let a₂ = a₁ && sizes_ok w in
    let a₃ = a₂ && saved_sizes_ok w in
    let a₄ = a₃ && frames_ok w in
    let a₅ = a₄ && entry_ok w in
    let a₆ = a₅ && floors_ok w in
    let a₇ = a₆ && drivers_ok w in
    let a₈ = a₇ && running_ok w in
    let a₉ = a₈ && saved_ok w in
    let b₁ = a₉ && rows_ok w in
    let b₂ = b₁ && queues_ok w in
    let b₃ = b₂ && fuel_ok w in
    let b₄ = b₃ && unused_ok w in
    let h₄ = and_left b₄ (ranges_ok w) h in
    let h₃ = and_left b₃ (unused_ok w) h₄ in
    let h₂ = and_left b₂ (fuel_ok w) h₃ in
    let h₁ = and_left b₁ (queues_ok w) h₂ in
    let g₉ = and_left a₉ (rows_ok w) h₁ in
    let g₈ = and_left a₈ (saved_ok w) g₉ in
    let g₇ = and_left a₇ (running_ok w) g₈ in
    let g₆ = and_left a₆ (drivers_ok w) g₇ in
    let g₅ = and_left a₅ (floors_ok w) g₆ in
    let g₄ = and_left a₄ (entry_ok w) g₅ in
    let g₃ = and_left a₃ (frames_ok w) g₄ in
    let g₂ = and_left a₂ (saved_sizes_ok w) g₃ in
    record {
      setup = and_left a₁ (sizes_ok w) g₂;
      sizes = and_right a₁ (sizes_ok w) g₂;
      saved_sizes = and_right a₂ (saved_sizes_ok w) g₃;
      frames = and_right a₃ (frames_ok w) g₄;
      entry = and_right a₄ (entry_ok w) g₅;
      floors = and_right a₅ (floors_ok w) g₆;
      drivers = and_right a₆ (drivers_ok w) g₇;
      running = and_right a₇ (running_ok w) g₈;
      saved = and_right a₈ (saved_ok w) g₉;
      rows = and_right a₉ (rows_ok w) h₁;
      queues = and_right b₁ (queues_ok w) h₂;
      fuel = and_right b₂ (fuel_ok w) h₃;
      unused = and_right b₃ (unused_ok w) h₄;
      ranges = and_right b₄ (ranges_ok w) h;
    }

pub ruled : (w : World) → Rules w → sound w ≡ true
unfolding sound
ruled w r =
    both (both (both (both (both (both (both (both (both (both (both (both (both r.setup r.sizes) r.saved_sizes) r.frames) r.entry) r.floors) r.drivers) r.running) r.saved) r.rows) r.queues) r.fuel) r.unused) r.ranges
