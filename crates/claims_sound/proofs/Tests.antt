-- Laws of tests, as `model` has them.
pub use Rattle.model.proofs.Tests.{no_false, no_true, and_left, and_right, both, each-imp, each_snoc, each_at, at_each, or_left, or_right, or_else, or-first, or-second, neither, negate, unnegate, among-snoc, distinct_snoc, among-not, among-each, among-all, picked}
