-- worked drawings
pub mod Drawn
-- the words of the command line, and the numbers there
pub mod Sources
pub mod Numbers
pub mod Settings
pub mod FirstSetting
pub mod OptionNumbers
pub mod OptionTexts
pub mod ClapSteps
pub mod ClapWalk
pub mod ClapOptions
pub mod ManyWords
-- the lines that are printed
pub mod Lines
pub mod Shown
-- a whole run
pub mod Budgets
pub mod Found
pub mod Held
pub mod FileReads
pub mod Twisted
pub mod Answered
pub mod Runs
