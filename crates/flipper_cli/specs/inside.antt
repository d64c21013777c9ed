-- What serves the code alone.
pub mod AboutSurfaces
pub mod Sources
pub mod Shown
pub mod CertificateFiles
pub mod Places
pub mod SeenCommand
pub mod SeenOptions
pub mod OptionCommand
