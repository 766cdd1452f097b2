use Rattle.olk_regexes.specs.Live.{height}
use Rattle.olk_regexes.proofs.step.+step.Given as goal

abbrev pub decreases-step : goal.decreases-step
decreases-step l = height l.regex.now
