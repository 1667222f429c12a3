pub mod CanonicalLines
pub mod CertificateLines
pub mod Entries
pub mod MapTexts
pub mod PrintedCertificates
pub mod Reading
pub mod SectionLines
pub mod SetTexts
