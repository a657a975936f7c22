use Rattle.std.proofs.Common.{rules, ◌≡◌, ◌∙◌, ℕ, min, ap}
use Rattle.std.proofs.Common.{take, drop}
use Rattle.outside.proofs.Giving.{gives}
use Rattle.outside.proofs.memory_source.SteadySource.give.Goals as goal

pub returns-clause-told : goal.returns-clause-told
returns-clause-told c = gives c.args.self.now.text c.split_at.result.1.now c.args.buf.now c.split_at-2.result.0.now c.copy_from_slice.new.self c.args.self.now.read c.min-count.result c.args.most (c.split_at.ensures.back ∙ ap (drop c.args.self.now.read) c.as_slice.ensures) (c.min-count.ensures ∙ ap (λ (x : ℕ). min x c.args.most) c.min.ensures) c.requires c.split_at-2.ensures.front c.copy_from_slice.ensures.after
