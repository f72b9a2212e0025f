use Rattle.loc_verify.proofs.reading.+follow.Given as goal

abbrev pub decreases-follow : goal.decreases-follow
decreases-follow l = l.room
