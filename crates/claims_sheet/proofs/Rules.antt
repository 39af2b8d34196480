-- Seven of the rules that a sound machine keeps.
use mathlib.Core.Path.{◌≡◌}
use mathlib.Core.Bool.{Bool, true, ◌&&◌}
use Rattle.model.specs.Program.{setup_ok}
use Rattle.model.specs.World.{World}
use Rattle.model.specs.Sound.{sizes_ok, saved_sizes_ok, frames_ok, entry_ok, floors_ok, drivers_ok, running_ok, saved_ok, rows_ok, queues_ok, fuel_ok, unused_ok, ranges_ok, sound}
use Rattle.claims_sheet.proofs.Among.{and_left, and_right}

-- the tests before floors_ok, up to drivers_ok, and up to saved_ok
abbrev low : World → Bool
low w = setup_ok w.setup && sizes_ok w && saved_sizes_ok w && frames_ok w && entry_ok w

abbrev middle : World → Bool
middle w = low w && floors_ok w && drivers_ok w

abbrev high : World → Bool
high w = middle w && running_ok w && saved_ok w

module _ (w : World) (h : sound w ≡ true) where
  up-to-saved : high w ≡ true
  unfolding sound
  up-to-saved =
      and_left (high w) (rows_ok w)
      (and_left (high w && rows_ok w) (queues_ok w)
      (and_left (high w && rows_ok w && queues_ok w) (fuel_ok w)
      (and_left (high w && rows_ok w && queues_ok w && fuel_ok w) (unused_ok w) (and_left (high w && rows_ok w && queues_ok w && fuel_ok w && unused_ok w) (ranges_ok w) h))))

  pub fuel : fuel_ok w ≡ true
  unfolding sound
  fuel =
      and_right (high w && rows_ok w && queues_ok w) (fuel_ok w)
      (and_left (high w && rows_ok w && queues_ok w && fuel_ok w) (unused_ok w) (and_left (high w && rows_ok w && queues_ok w && fuel_ok w && unused_ok w) (ranges_ok w) h))

  pub queues : queues_ok w ≡ true
  unfolding sound
  queues =
      and_right (high w && rows_ok w) (queues_ok w)
      (and_left (high w && rows_ok w && queues_ok w) (fuel_ok w)
      (and_left (high w && rows_ok w && queues_ok w && fuel_ok w) (unused_ok w) (and_left (high w && rows_ok w && queues_ok w && fuel_ok w && unused_ok w) (ranges_ok w) h)))

  first : setup_ok w.setup && sizes_ok w ≡ true
  first =
      (and_left (setup_ok w.setup && sizes_ok w) (saved_sizes_ok w)
      (and_left (setup_ok w.setup && sizes_ok w && saved_sizes_ok w) (frames_ok w)
      (and_left (setup_ok w.setup && sizes_ok w && saved_sizes_ok w && frames_ok w) (entry_ok w)
      (and_left (low w) (floors_ok w) (and_left (low w && floors_ok w) (drivers_ok w) (and_left (middle w) (running_ok w) (and_left (middle w && running_ok w) (saved_ok w) up-to-saved)))))))

  pub set-up : setup_ok w.setup ≡ true
  set-up = and_left (setup_ok w.setup) (sizes_ok w) first

  pub sizes : sizes_ok w ≡ true
  sizes = and_right (setup_ok w.setup) (sizes_ok w) first

  up-to-running : middle w && running_ok w ≡ true
  up-to-running = and_left (middle w && running_ok w) (saved_ok w) up-to-saved

  pub saved : saved_ok w ≡ true
  saved = and_right (middle w && running_ok w) (saved_ok w) up-to-saved

  pub running : running_ok w ≡ true
  running = and_right (middle w) (running_ok w) up-to-running

  pub floors : floors_ok w ≡ true
  floors = and_right (low w) (floors_ok w) (and_left (low w && floors_ok w) (drivers_ok w) (and_left (middle w) (running_ok w) up-to-running))
