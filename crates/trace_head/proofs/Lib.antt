pub mod HeadFormat
