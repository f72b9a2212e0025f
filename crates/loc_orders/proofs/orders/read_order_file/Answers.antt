use Rattle.loc_orders.proofs.orders.read_order_file.Goals as goal

pub returns-in-Shuffled-clause-goes_on : goal.returns-in-Shuffled-clause-goes_on
returns-in-Shuffled-clause-goes_on g c next o k = rw c.in-Shuffled.is (λ last end follows. follows)
