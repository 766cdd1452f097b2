mod Verdicts
mod Reports
