use Rattle.verdict_plan.proofs.sites.first_power.Goals as goal

pub returns : goal.returns
returns c word w depth h = record {
  kept = c.requires;
  stage = h;
  standing = c.in_ok-standing.ensures word;
}
