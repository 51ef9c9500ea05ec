-- The push itself, and the sum from which d was taken at one node.
use Rattle.flows.proofs.Push.{push, upto_taken}
use Rattle.flows.proofs.push_keeps_bounds_and_lowers_excess.Goals as goal

pub returns : goal.returns
returns c =
    λ g d f a b steps spare lack spare' lack' m t l p q.
    record { mends = push g d f a b steps spare lack spare' lack' m t p q; falls = upto_taken g.nodes a d spare spare' l p }
